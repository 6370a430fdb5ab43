pub mod Standing
pub mod Mutual
pub mod Drawn
pub mod Meanings
pub mod Own
