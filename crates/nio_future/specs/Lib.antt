pub mod Desk
pub mod Kept
pub mod Round
pub mod Run
pub mod Steps
pub mod Ticket
pub mod Tickets
