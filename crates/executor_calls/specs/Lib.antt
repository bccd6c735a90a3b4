pub mod Gaining
pub mod Asks
pub mod Callbacks
pub mod Tending
pub mod Runs
