pub mod Schedules
pub mod Faults
pub mod Tellings
