pub mod Callers
pub mod Laws
pub mod NamedCalls
pub mod Piping
pub mod Selections
pub mod Several
