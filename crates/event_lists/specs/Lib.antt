pub mod Views
pub mod Lists
pub mod Words
