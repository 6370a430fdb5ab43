pub mod Paired
pub mod Spaced
pub mod Sums
