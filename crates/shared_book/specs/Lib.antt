pub mod Books
pub mod Attempting
