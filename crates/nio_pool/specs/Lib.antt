pub mod Hands
pub mod Queues
pub mod Kept
pub mod Threads
pub mod Batches
pub mod Moves
