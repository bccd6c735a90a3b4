pub mod RowLemmas
pub mod SeatLemmas
pub mod PutLemmas
pub mod PlaceLemmas
