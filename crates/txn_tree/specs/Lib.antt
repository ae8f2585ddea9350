pub mod States
pub mod Asked
pub mod Causes
pub mod Statuses
pub mod Numbered
pub mod Siblings
pub mod Linked
