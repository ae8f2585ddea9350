pub mod LocksAndVersions
pub mod Steps
pub mod Changes
