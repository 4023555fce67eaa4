pub mod Faultless
pub mod Sides
