pub mod Counting
pub mod EndOrdinates
pub mod Stations
pub mod Worst
