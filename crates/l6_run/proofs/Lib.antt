pub mod Explaining
pub mod Listings
pub mod Printouts
pub mod Servings
pub mod WordLines
