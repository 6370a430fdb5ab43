pub mod Faults
pub mod Words
pub mod Stems
pub mod Lines
pub mod Cards
