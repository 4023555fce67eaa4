mod BoardCalls
pub mod Calls
mod Dealt
pub mod Idle
mod Polling
mod Resolved
mod TableCalls
