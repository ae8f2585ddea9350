pub mod Kept
pub mod Judging
