pub mod Jobs
pub mod Openings
pub mod inner
