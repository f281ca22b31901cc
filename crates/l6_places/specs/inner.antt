pub mod Tree
pub mod View
pub mod Building
pub mod Descent
pub mod Climb
pub mod Settling
pub mod Ways
