pub mod Nodes
pub mod Kept
pub mod Prepared
pub mod Commits
pub mod Stands
pub mod Plans
pub mod Edits
