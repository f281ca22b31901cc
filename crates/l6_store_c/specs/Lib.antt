pub mod Answer
pub mod Handle
pub mod Lending
pub mod Outcome
