pub mod News
pub mod Looks
pub mod Counts
pub mod Readiness
