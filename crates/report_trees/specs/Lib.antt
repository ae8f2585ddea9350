pub mod Telling
pub mod Trees
pub mod inner
