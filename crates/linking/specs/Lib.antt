pub mod Reverse
pub mod Rules
pub mod Choices
pub mod Links
pub mod Passes
pub mod Laws
pub mod Answers
pub mod Tried
