pub mod Ordered
pub mod Tables
pub mod Greatest
pub mod Numbering
pub mod Entries
pub mod Settled
pub mod Exports
