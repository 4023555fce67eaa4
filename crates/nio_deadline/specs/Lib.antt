pub mod Deadlines
pub mod Kept
pub mod Run
pub mod Steps
pub mod Timed
