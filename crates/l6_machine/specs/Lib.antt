pub mod Numerals
pub mod Counting
pub mod Later
pub mod Options
pub mod Printout
pub mod inner
