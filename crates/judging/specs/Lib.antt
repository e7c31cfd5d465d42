pub mod Reads
pub mod Asks
pub mod Choices
