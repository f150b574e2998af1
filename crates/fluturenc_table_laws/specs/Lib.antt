pub mod TableHeld
pub mod ApartLaws
pub mod BytesHistory
pub mod BytesOpenings
