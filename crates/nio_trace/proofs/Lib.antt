pub mod Names
pub mod Owned
