pub mod Transfer
pub mod Lines
