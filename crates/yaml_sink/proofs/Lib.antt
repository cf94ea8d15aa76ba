pub mod DressLemmas
pub mod WeaveLemmas
pub mod ListLemmas
pub mod SettleLemmas
pub mod SinkLemmas
