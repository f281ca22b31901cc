pub mod Input
pub mod Registers
pub mod Exchanging
pub mod Definitions
pub mod Fields
pub mod Freeing
pub mod Getting
pub mod Upcoming
