pub mod Answered
pub mod Calls
pub mod Numbers
pub mod Pushing
pub mod Summing
pub mod Tallying
