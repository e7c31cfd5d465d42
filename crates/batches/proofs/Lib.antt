pub mod Lists
pub mod More
pub mod Entries
pub mod Going
pub mod Places
