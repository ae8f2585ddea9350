pub mod Lists
pub mod Equal
