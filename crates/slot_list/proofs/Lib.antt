pub mod Numbers
pub mod Picks
