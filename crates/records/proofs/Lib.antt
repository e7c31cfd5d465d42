pub mod Parts
pub mod Joining
pub mod Differences
pub mod Extra
pub mod Lists
pub mod Batching
