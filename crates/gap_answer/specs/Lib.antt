pub mod KeptGap
