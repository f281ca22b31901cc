pub mod Kinds
pub mod Token
pub mod StatementBuilder
pub mod Pass
pub mod KeptBuilder
pub mod Reader
