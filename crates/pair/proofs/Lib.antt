pub mod Fitting
pub mod Places
