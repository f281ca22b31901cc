pub mod Fields
pub mod Reading
pub mod Back
pub mod Statements
pub mod Seen
pub mod Loading
