pub mod Changes
pub mod Grammar
pub mod ZoneText
pub mod Reading
pub mod Parsed
pub mod Laws
