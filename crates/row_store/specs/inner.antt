pub mod Edit
pub mod Passes
