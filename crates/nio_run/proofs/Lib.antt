mod ByWorkers
mod Leaving
pub mod Legal
mod Named
mod Serves
mod Unsent
