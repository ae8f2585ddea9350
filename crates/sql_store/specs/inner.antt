pub mod Commit
pub mod Writes
