pub mod KeptLine
