pub mod Advancing
pub mod Stepping
pub mod Arrivals
pub mod Leading
pub mod Seeing
pub mod Fitting
