pub mod PictureFileLaws
