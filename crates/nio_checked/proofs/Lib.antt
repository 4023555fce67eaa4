pub mod Keeping
pub mod Polling
pub mod Giving
pub mod Leaving
pub mod Allowing
pub mod Changing
pub mod Buffering
pub mod Standing
