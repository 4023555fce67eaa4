pub mod Following
pub mod Idle
pub mod Callers
