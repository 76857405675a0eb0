pub mod Fitting
pub mod Marks
pub mod Leading
pub mod Loading
pub mod Results
