pub mod Words
pub mod Script
pub mod Outcome
pub mod Times
pub mod Next
pub mod Laws
