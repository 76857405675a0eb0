pub mod Entries
pub mod Loadings
pub mod LoadsOf
