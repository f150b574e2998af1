pub mod LinesBackLaws
