pub mod PlacementNumbers
