pub mod Fits
mod Pairs
mod Loads
