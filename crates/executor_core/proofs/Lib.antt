pub mod KnownRows
pub mod Ranks
pub mod Firsts
pub mod ByKey
pub mod LastRuns
pub mod Answered
pub mod IdKeys
pub mod Held
