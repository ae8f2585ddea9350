pub mod Changing
pub mod Earlier
pub mod Chains
pub mod Along
