pub mod Bytes
pub mod Moves
