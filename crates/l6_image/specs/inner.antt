pub mod Heads
pub mod encode
pub mod decode
pub mod Lines
pub mod TextFault
pub mod Faults
