pub mod ByKey
mod Dropping
mod Finding
mod First
mod Fronts
mod HandedUp
mod Handing
mod Holding
mod Lists
mod Marking
mod Placing
mod Puts
pub mod Reserving
mod Seen
mod Viewed
mod Zipped
pub mod Exports
