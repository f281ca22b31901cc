pub mod Acting
pub mod Holding
mod Windows
mod Got
mod Levels
mod NewBlocks
pub mod Freed
pub mod Gathering
pub mod Apart
pub mod Shown
pub mod Inputs
pub mod Lasts
