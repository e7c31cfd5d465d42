pub mod Beating
pub mod Bytes
pub mod Candidates
pub mod Reading
pub mod Runs
pub mod Stepping
pub mod Ticks
