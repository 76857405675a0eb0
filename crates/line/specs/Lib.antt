pub mod PieceFits
pub mod Sought
