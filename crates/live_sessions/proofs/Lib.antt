pub mod Grown
pub mod Handled
