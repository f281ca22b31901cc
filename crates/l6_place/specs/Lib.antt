pub mod Spot
pub mod Cards
pub mod inner
