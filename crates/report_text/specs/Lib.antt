pub mod Lines
pub mod Rows
pub mod Verdicts
pub mod inner
