pub mod Answering
pub mod Hosting
pub mod Continuing
