pub mod Causes
pub mod Streams
pub mod Links
pub mod Dials
pub mod Clocks
pub mod Spools
