pub mod Cycles
pub mod Trails
pub mod Waiting
pub mod Agreement
pub mod Room
pub mod Stored
pub mod Sieve
pub mod inner
