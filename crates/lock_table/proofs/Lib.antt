pub mod Blockers
pub mod Lists
pub mod Reaching
pub mod Joined
pub mod Marked
pub mod Places
pub mod Summers
pub mod Found
pub mod Listed
mod Bare
mod Dots
mod InTurn
pub mod Exports
