pub mod Faults
pub mod Showing
pub mod Hearing
pub mod Living
