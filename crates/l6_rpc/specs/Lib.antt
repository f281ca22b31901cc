pub mod Rpc
pub mod Seen
pub mod Takes
pub mod Serving
