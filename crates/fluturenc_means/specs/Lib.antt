pub mod MeansCall
