pub mod Feeds
pub mod Filling
pub mod Lining
