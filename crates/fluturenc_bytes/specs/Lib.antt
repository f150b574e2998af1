pub mod BytesCall
