pub mod Slots
pub mod Slotted
