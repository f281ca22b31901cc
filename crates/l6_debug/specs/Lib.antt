pub mod Numerals
pub mod Command
pub mod DebuggerState
pub mod Answer
pub mod Transcript
pub mod Serving
pub mod Worked
pub mod inner
