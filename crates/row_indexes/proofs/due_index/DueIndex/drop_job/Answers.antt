use Rattle.std.proofs.Common.{subst, sym}
use Rattle.std.specs.List.{All}
use Rattle.row_indexes.specs.Due.{IsDueKey}
use Rattle.row_indexes.proofs.EntryLemmas.{all-without_entry}
use Rattle.row_indexes.proofs.due_index.DueIndex.drop_job.Goals as goal

pub invariant_of-self : goal.invariant_of-self
invariant_of-self c =
    subst (All IsDueKey) (sym c.drop_entry.ensures.keys) (all-without_entry IsDueKey c.due_key.result c.self.inside.keys.keys c.self.invariant)
