pub mod SignalReport
pub mod SignalReportLaws
