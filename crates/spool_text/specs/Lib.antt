pub mod Spool
