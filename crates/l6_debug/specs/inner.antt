pub mod DebuggerRun
