pub mod Places
pub mod Groups
pub mod Bytes
pub mod Rising
pub mod Narrowing
pub mod Walking
