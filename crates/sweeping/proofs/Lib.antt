pub mod Counting
pub mod Marking
pub mod Leaving
pub mod SweepRows
