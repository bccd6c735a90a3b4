pub mod Places
pub mod Turns
pub mod Steps
pub mod Seats
pub mod Gains
