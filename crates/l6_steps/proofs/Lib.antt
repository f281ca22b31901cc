pub mod Run
pub mod Numbered
pub mod Lasting
pub mod Taking
mod Examples
pub mod Calculations
pub mod Bits
pub mod Rows
pub mod Landing
pub mod Maps
pub mod Actions
pub mod Levels
pub mod Loci
pub mod Bounds
pub mod Tiled
pub mod Outputs
pub mod RunLengths
pub mod LevelsAsked
