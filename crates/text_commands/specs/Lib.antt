pub mod Outcomes
pub mod Served
