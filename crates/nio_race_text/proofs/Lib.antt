pub mod Blocks
pub mod GoCut
pub mod OneLine
pub mod Output
pub mod Parts
pub mod RaceTexts
