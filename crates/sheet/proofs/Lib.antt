pub mod Outcomes
pub mod Spans
pub mod Fresh
pub mod Read
pub mod Redrawn
pub mod Runs
pub mod Alone
pub mod Moved
