pub mod CallLemmas
pub mod FrameLemmas
pub mod LawLemmas
pub mod RoundLemmas
pub mod SettleLemmas
pub mod StartLemmas
pub mod TicketLemmas
mod WaitingLemmas
