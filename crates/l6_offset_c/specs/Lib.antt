pub mod Answer
pub mod Handle
pub mod Outcome
