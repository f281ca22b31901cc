pub mod DeviceUses
pub mod Transfers
pub mod Separators
