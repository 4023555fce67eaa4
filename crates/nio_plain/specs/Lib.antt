pub mod ScriptState
pub mod Seq
pub mod Answer
pub mod PlainState
pub mod Plain
pub mod Naming
pub mod CallLaws
pub mod ReachedLaws
