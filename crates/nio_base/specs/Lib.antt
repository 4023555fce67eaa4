pub mod Kind
pub mod Limits
pub mod Numbers
pub mod Ops
