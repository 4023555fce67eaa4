pub mod Check
pub mod Entries
pub mod History
pub mod HistoryCall
pub mod Input
pub mod Output
pub mod Run
pub mod Status
