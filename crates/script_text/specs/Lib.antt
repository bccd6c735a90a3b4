pub mod Words
pub mod Lines
pub mod Faults
pub mod Manage
pub mod Spelling
pub mod Replies
pub mod Laws
