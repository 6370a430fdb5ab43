pub mod Passing
pub mod Fills
pub mod Links
pub mod Products
pub mod Turns
pub mod Tilings
pub mod Standing
pub mod Meanings
