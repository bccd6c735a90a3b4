use Rattle.cron_schedule.proofs.CompleteLemmas.{reader_is_grammar}
use Rattle.cron_schedule.proofs.laws.law_reader_is_grammar.Goals as goal

pub returns : goal.returns
returns c = reader_is_grammar
