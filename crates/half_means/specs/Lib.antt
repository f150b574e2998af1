pub mod HalfMeans
pub mod Sixtyfourths
pub mod HalfMeansLaws
