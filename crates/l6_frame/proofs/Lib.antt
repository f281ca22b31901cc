pub mod Fields
pub mod Frames
pub mod Heads
pub mod Streams
