pub mod Lists
pub mod Totals
pub mod Slots
pub mod Turning
pub mod Meeting
pub mod Asked
pub mod Seated
pub mod Gains
