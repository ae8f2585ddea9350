pub mod Told
pub mod Exports
