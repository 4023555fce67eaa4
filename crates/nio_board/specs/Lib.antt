pub mod Board
pub mod BoardCalls
pub mod BoardLaws
pub mod Called
pub mod Polling
