pub mod Generator
pub mod Load
pub mod Summary
pub mod Tally
