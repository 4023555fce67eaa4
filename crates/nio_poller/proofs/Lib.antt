pub mod Trying
pub mod Ready
pub mod Marks
pub mod Quiet
mod Scripts
mod Telling
mod Whole
mod LookedFor
mod WentOn
