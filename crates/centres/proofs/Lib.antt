pub mod Ordinates
pub mod Candidates
pub mod LaneLimits
