pub mod Targets
pub mod Programs
