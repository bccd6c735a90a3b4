pub mod Entries
pub mod Due
pub mod LogLists
pub mod Pages
