pub mod Places
pub mod Rising
