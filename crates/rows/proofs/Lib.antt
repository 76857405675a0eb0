mod Loaded
mod BuiltIn
pub mod Choosing
pub mod Sections
pub mod LimitStates
pub mod RecordsWalked
