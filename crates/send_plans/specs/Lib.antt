pub mod Takes
pub mod Sendings
