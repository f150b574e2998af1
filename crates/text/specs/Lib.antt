pub mod Text
pub mod Parts
pub mod TextLaws
pub mod Put
pub mod PutLaws
pub mod Pages
pub mod PagesLaws
