pub mod Calls
pub mod Connection
pub mod Flow
pub mod Kept
pub mod Plan
