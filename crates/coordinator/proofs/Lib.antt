pub mod Following
pub mod ByKind
