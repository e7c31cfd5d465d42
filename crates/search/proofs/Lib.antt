pub mod Freeing
pub mod Placing
pub mod SlotSets
