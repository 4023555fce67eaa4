pub mod EndLemmas
pub mod KeptLemmas
pub mod Opening
mod Rings
pub mod Waits
pub mod Idle
