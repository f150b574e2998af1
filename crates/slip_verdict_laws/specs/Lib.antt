pub mod SlipVerdict
