use Rattle.std.proofs.Common.{subst, sym}
use Rattle.std.specs.List.{All}
use Rattle.row_indexes.specs.Due.{IsDueKey}
use Rattle.row_indexes.proofs.EntryLemmas.{all-with_entry, all-without_entry}
use Rattle.row_indexes.proofs.due_index.DueIndex.change.Goals as goal

pub invariant_of-self : goal.invariant_of-self
invariant_of-self c =
    subst (All IsDueKey) (sym c.put_entry.ensures.keys)
    (all-with_entry IsDueKey c.due_key-2.result c.drop_entry.new.keys.keys c.due_key-2.ensures.bounds
    (subst (All IsDueKey) (sym c.drop_entry.ensures.keys) (all-without_entry IsDueKey c.due_key.result c.self.inside.keys.keys c.self.invariant)))
