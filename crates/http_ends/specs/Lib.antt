pub mod Addresses
pub mod Writing
pub mod Asking
