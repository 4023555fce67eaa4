pub mod Lines
pub mod Replies
pub mod Called
pub mod Reading
pub mod Does
pub mod Laws
