pub mod Words
pub mod Values
pub mod Rows
pub mod Walks
pub mod Ends
pub mod Ready
pub mod Said
pub mod Tables
