pub mod ReportNumbers
