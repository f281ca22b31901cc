pub mod Asked
pub mod Launched
pub mod Setting
pub mod Shown
pub mod Watching
