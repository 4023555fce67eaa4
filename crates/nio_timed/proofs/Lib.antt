pub mod OwnWords
pub mod Lines
pub mod FirstBad
pub mod Answering
pub mod OneTimed
pub mod Steps
pub mod Printing
pub mod Starts
