pub mod Few
pub mod Terms
pub mod Omissions
mod Groups
