use Rattle.callback_spool.proofs.Longest.{batch_is_longest}
use Rattle.callback_spool.proofs.laws.law_batches.Goals as goal

pub returns : goal.returns
returns c = batch_is_longest
