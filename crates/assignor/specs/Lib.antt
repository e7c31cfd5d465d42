pub mod Keys
pub mod Shares
