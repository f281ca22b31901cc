pub mod Cuts
pub mod Inputs
pub mod Masks
pub mod Octals
