pub mod Pushing
pub mod Reaching
