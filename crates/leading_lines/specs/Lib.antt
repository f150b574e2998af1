pub mod LeadingLines
