pub mod Compared
pub mod Tallied
