pub mod RaceLines
pub mod RaceOutput
pub mod RaceText
pub mod Reading
