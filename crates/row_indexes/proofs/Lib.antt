pub mod SameKeys
pub mod EntryLemmas
pub mod IdLemmas
pub mod DropLemmas
pub mod DueLemmas
pub mod ReadLemmas
pub mod PageLemmas
pub mod RowPageLemmas
