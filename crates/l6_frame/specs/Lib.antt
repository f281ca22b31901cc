pub mod Frame
pub mod Numerals
pub mod Read
pub mod Stream
