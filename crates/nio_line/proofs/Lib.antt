pub mod Order
pub mod Last
