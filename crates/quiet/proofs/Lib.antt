pub mod Rising
pub mod Counting
pub mod Matching
