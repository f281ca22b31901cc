pub mod Fields
pub mod Flow
pub mod Progress
pub mod CompiledProgram
