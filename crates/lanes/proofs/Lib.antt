pub mod Elements
pub mod Placements
pub mod Given
