pub mod Following
pub mod Judging
pub mod Lining
pub mod Remaining
pub mod Rowing
pub mod Stepping
