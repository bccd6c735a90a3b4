pub mod Batches
pub mod Lists
pub mod Answers
pub mod Different
