pub mod Answers
pub mod Handling
pub mod Office
pub mod Rest
pub mod Seats
