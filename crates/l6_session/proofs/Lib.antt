pub mod Dialogues
pub mod Repeats
pub mod Slashes
pub mod Following
pub mod Kept
pub mod LeadingBack
pub mod Latest
