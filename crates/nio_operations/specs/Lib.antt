pub mod Handling
pub mod Reporting
