pub mod Gathered
pub mod Later
pub mod Joining
pub mod Fits
