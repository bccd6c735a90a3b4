pub mod LineEnds
pub mod ScriptLemmas
pub mod TimesLemmas
pub mod WordLemmas
pub mod AnswerLemmas
