pub mod TextLengthLaws
