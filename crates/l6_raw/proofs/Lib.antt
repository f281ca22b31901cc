pub mod Overwriting
pub mod Rows
pub mod Rooms
pub mod Fields
pub mod Glances
pub mod Pages
