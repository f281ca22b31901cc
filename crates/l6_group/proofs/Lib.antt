pub mod Cuts
pub mod Readings
pub mod Numbers
pub mod Exact
pub mod Misfits
