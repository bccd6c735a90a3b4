pub mod Order
pub mod Serving
pub mod Waiting
