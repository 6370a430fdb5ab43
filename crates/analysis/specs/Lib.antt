pub mod Passes
pub mod Records
pub mod Outlines
pub mod Areas
