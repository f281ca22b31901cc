pub mod Stopping
pub mod Going
pub mod Lines
pub mod Words
pub mod Sessions
