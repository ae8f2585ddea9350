pub mod Keeping
pub mod Taking
