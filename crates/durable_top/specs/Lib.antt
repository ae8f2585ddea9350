pub mod Store
pub mod Memory
pub mod Numbered
pub mod Numbers
pub mod Joined
