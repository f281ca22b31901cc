pub mod Calculation
pub mod Positions
