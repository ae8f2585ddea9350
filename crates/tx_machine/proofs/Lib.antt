pub mod Ran
pub mod Exports
