pub mod Scale
pub mod Elements
pub mod Bars
pub mod Waits
pub mod Marks
pub mod Frame
pub mod Picture
pub mod Laws
