pub mod Numerals
pub mod Cards
pub mod Marks
pub mod Reasons
pub mod Details
