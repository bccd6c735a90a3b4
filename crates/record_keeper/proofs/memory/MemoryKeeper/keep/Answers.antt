use Rattle.std.proofs.Common.{List, ◌++◌, ◌∙◌, ap, sym, subst}
use Rattle.job_records.specs.declared.change.Change.{Change}
use Rattle.job_records.specs.Tables.{no_rows}
use Rattle.job_records.specs.Changes.{AreAllowed}
use Rattle.job_records.proofs.Keeping.{allowed_append}
use Rattle.record_keeper.specs.Memory.{KeeperMemory, tables_of}
use Rattle.record_keeper.proofs.memory.MemoryKeeper.keep.Goals as goal

pub invariant_of-self-2 : goal.invariant_of-self-2
invariant_of-self-2 c =
    let saved = c.self.inside.saved.items in
    let behind = c.in_ok-append.ensures.items ∙ ap (λ cs. saved ++ cs) (c.in_ok-copies.ensures ∙ c.as_slice.ensures) in
    let P : KeeperMemory → Type 0 = λ m. AreAllowed (tables_of m) c.args.changes.now in
    let Q : List Change → Type 0 = λ cs. AreAllowed no_rows cs in
    subst Q (sym behind) (allowed_append no_rows saved c.args.changes.now c.self.invariant (subst P (sym c.self.view_is) c.requires.allowed))
