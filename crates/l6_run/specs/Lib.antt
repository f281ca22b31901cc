pub mod Prints
pub mod Texts
pub mod Runs
pub mod Explains
pub mod Serves
pub mod Laws
pub mod inner
