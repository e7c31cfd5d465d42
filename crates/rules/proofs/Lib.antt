pub mod Lists
pub mod Number
