pub mod Closed
pub mod Opened
pub mod Registered
pub mod Held
pub mod Idle
