pub mod PictureFile
