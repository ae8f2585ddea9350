pub mod Texts
pub mod Flags
pub mod Reading
pub mod Parsing
pub mod Refusing
pub mod Exports
