mod Fronts
pub mod Results
