pub mod Freeing
pub mod OrdinaryRows
pub mod SlotSets
pub mod Stepping
pub mod Staying
pub mod Located
