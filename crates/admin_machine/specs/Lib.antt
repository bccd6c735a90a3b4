pub mod Views
pub mod Standing
pub mod Refusals
pub mod Opening
