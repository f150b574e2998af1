pub mod LeadingRunLaws
