pub mod History
pub mod Items
pub mod Runs
pub mod Past
pub mod Replies
pub mod Legal
pub mod Places
