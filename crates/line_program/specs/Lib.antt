pub mod Cuts
pub mod Meaning
pub mod Script
pub mod Ports
pub mod Outcome
pub mod Steps
pub mod Progress
pub mod Laws
