pub mod Puts
pub mod Merged
pub mod Fronts
pub mod Holds
pub mod Served
pub mod Given
pub mod Counted
