pub mod Numerals
pub mod History
pub mod Stop
pub mod Seeking
pub mod Life
pub mod inner
