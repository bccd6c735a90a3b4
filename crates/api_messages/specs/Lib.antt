pub mod Members
pub mod Tables
pub mod Meaning
pub mod Reading
pub mod Seen
pub mod Writing
pub mod Laws
pub mod Faults
