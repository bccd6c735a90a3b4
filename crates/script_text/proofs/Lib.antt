pub mod Codes
pub mod LineLaws
pub mod ManageLaws
pub mod ReadLaws
pub mod SaidWords
pub mod SpecLaws
pub mod SpecReading
pub mod SpellingLaws
