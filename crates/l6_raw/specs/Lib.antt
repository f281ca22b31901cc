pub mod Numerals
pub mod Words
pub mod Room
pub mod Pages
