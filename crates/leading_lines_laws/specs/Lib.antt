pub mod LeadingRun
