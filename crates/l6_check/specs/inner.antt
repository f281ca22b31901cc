pub mod Marks
pub mod StatementTests
pub mod Names
pub mod Parts
pub mod Mending
pub mod Places
