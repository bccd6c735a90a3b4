pub mod Forms
pub mod Options
pub mod Plain
pub mod Programs
pub mod Laws
