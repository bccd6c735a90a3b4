pub mod Places
pub mod RowIds
pub mod Marks
pub mod Counting
pub mod Unsent
pub mod OpenLogs
pub mod TakenLogs
pub mod Answered
pub mod Balance
pub mod Running
pub mod Stops
pub mod Reopened
pub mod Openings
pub mod LegalRuns
mod Rows
