pub mod Targets
pub mod Linking
pub mod Bounds
pub mod Installs
