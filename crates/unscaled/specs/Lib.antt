pub mod Faults
pub mod Entries
pub mod Placements
pub mod Records
pub mod Corners
