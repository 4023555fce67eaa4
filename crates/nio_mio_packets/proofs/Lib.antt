pub mod Sides
pub mod Calls
