pub mod Fitting
pub mod Places
pub mod Narrow
pub mod Views
pub mod Walk
