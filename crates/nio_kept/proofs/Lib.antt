mod Asked
pub mod Continues
mod Looks
mod Told
mod Counting
mod Taking
