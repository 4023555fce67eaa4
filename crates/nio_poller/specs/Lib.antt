pub mod Polls
pub mod Polled
pub mod Until
pub mod Selecting
pub mod Telling
pub mod Scripts
pub mod Laws
