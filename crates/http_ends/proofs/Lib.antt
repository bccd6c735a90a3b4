pub mod PortLemmas
pub mod AddressLemmas
pub mod ExchangeLemmas
pub mod AskLemmas
