pub mod Valued
pub mod Chained
pub mod Spoken
pub mod Told
pub mod Served
pub mod inner
