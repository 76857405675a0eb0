pub mod LineFits
pub mod PairPlaces
