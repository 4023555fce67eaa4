pub mod Commands
pub mod Load
pub mod Many
pub mod Packets
pub mod Proxy
pub mod Relays
pub mod Timed
pub mod Words
