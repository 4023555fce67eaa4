pub mod Changes
pub mod Nets
pub mod Passing
pub mod Relaying
pub mod Serving
pub mod Slots
pub mod Statuses
pub mod Watching
