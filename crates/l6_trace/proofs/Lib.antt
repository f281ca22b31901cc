pub mod Leading
pub mod Numbers
pub mod Judged
pub mod SameOpen
