pub mod Appending
pub mod Cut
pub mod Fields
mod LastWords
mod Ordered
pub mod Sourcing
pub mod Exports
