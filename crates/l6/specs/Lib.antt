pub mod Checks
pub mod JobResult
pub mod Status
pub mod TraceStatus
pub mod Worked
pub mod Exit
pub mod Words
