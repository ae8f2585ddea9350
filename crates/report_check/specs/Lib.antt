pub mod Passing
pub mod Serving
pub mod Verdicts
pub mod Laws
pub mod Naming
