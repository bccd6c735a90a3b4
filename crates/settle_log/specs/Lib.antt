pub mod Settling
pub mod Results
pub mod Laws
