pub mod SamePrograms
pub mod Findings
pub mod Opening
mod Errors
pub mod Mended
