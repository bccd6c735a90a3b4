pub mod Openings
pub mod Firing
pub mod Series
