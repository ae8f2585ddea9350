pub mod Numbers
pub mod Ready
pub mod Collected
mod Roomy
