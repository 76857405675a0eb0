pub mod Frames
pub mod Faults
pub mod Rulings
pub mod Linked
