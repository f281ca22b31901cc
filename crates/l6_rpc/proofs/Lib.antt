pub mod Reading
pub mod Talking
