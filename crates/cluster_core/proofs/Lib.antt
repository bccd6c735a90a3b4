pub mod EnteredLemmas
pub mod KeptLemmas
pub mod SoundLemmas
pub mod EmptyLemmas
pub mod CountLemmas
pub mod ReopenLemmas
