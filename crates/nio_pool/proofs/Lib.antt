pub mod Totals
pub mod Balance
pub mod Whole
pub mod BatchLemmas
pub mod MoveLemmas
