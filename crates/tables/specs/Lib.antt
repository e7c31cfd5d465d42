pub mod View
pub mod Places
pub mod Walk
pub mod Gathers
pub mod Advances
pub mod Changes
