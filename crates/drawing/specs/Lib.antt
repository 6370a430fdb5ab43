pub mod Faults
pub mod Tilings
pub mod Ranges
pub mod Placing
pub mod Books
pub mod Changes
