pub mod Following
pub mod Callers
