pub mod Targets
pub mod Links
