pub mod Tags
pub mod PlaceTags
pub mod Chains
pub mod ArenaLayout
pub mod FreeLists
pub mod Detached
pub mod Units
