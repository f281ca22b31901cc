pub mod Numerals
pub mod Board
pub mod Hindrance
pub mod inner
