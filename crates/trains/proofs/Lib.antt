mod Gathering
mod Verdicts
mod Accepted
pub mod Results
pub mod Given
