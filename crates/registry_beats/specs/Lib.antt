pub mod Registrations
pub mod Beats
pub mod Laws
