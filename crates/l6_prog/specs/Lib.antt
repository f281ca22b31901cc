pub mod Numerals
pub mod Chain
pub mod PrintText
pub mod Statement
pub mod Values
pub mod Target
pub mod Program
pub mod Laws
