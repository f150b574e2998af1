pub mod Findings
pub mod FindingsLaws
