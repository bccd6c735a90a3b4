mod Plain
mod Lines
mod Progress
mod Written
