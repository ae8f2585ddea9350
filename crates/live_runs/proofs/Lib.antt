pub mod Passing
pub mod Shown
pub mod Ended
pub mod Answered
pub mod Heard
pub mod Lines
pub mod Lived
