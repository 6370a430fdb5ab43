pub mod Faults
pub mod Drawn
pub mod Readings
pub mod Stored
pub mod Laws
pub mod Own
