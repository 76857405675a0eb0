pub mod Transverse
pub mod Spans
pub mod Spanned
pub mod Candidates
