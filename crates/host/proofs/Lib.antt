pub mod Results
pub mod Counts
