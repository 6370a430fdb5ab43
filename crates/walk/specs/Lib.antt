pub mod Steps
pub mod Starts
pub mod Legs
pub mod Marks
pub mod Ends
