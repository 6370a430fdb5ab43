pub mod Insides
pub mod Tiled
pub mod Joined
pub mod Held
