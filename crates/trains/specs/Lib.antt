pub mod Rated
pub mod TrainOf
