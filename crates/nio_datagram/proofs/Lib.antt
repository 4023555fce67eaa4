pub mod SideLaws
pub mod PacketLaws
pub mod Bits
pub mod Counting
pub mod Views
pub mod SocketLaws
pub mod PlaceLaws
pub mod PassLaws
pub mod ServeLaws
pub mod PromiseLaws
mod Told
