pub mod Ring
pub mod Slot
