mod Begun
pub mod Bits
mod Carrying
mod Clients
mod Connecting
pub mod Counts
mod Ends
mod Followed
mod Idle
pub mod Promise
mod Ordered
pub mod Slotting
pub mod Statuses
pub mod Watching
pub mod Ways
pub mod Working
mod Writing
