pub mod Changing
pub mod NumberedMachine
pub mod Ring
pub mod Seeking
pub mod Watches
