pub mod Held
pub mod Written
pub mod Sources
