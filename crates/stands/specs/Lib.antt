pub mod TrainFits
pub mod Runs
