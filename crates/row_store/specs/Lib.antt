pub mod Undo
pub mod Heading
pub mod Path
pub mod RowView
pub mod Shown
pub mod Steps
pub mod inner
