pub mod Sides
pub mod Worlds
pub mod Stores
pub mod Texts
pub mod Begun
pub mod Runs
