pub mod Listeners
pub mod Words
pub mod Works
