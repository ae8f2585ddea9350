pub mod Requested
pub mod Handling
