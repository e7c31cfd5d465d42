pub mod Fields
pub mod Storing
pub mod Views
