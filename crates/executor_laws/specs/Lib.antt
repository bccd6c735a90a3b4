pub mod Given
pub mod Results
pub mod Kept
pub mod Queue
