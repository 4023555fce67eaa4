pub mod CallsLemmas
pub mod ConnectionLemmas
pub mod KeptLemmas
