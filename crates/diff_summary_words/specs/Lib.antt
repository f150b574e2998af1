pub mod SummaryWords
