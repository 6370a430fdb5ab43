pub mod Directions
pub mod Corners
pub mod Units
pub mod Words
