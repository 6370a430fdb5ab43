pub mod Book
pub mod Sheets
pub mod Laws
pub mod Alone
