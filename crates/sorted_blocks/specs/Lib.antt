pub mod Keys
pub mod Blocks
