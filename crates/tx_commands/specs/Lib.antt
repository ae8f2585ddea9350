pub mod Programs
pub mod Shows
