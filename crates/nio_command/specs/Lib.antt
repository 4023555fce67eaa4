pub mod Apps
pub mod Options
pub mod Texts
pub mod Values
pub mod Words
