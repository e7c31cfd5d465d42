pub mod Numbering
pub mod Ordering
pub mod Listing
pub mod Assigning
