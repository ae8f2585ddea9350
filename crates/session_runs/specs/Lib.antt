pub mod Ways
pub mod Replays
pub mod Printing
pub mod Faults
pub mod Tellings
pub mod Listings
