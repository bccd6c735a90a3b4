use Rattle.std.proofs.Common.{◌≡◌, List, ◌++◌, Some, ◌∙◌, ap}
use Rattle.job_records.specs.declared.change.Change.{Change}
use Rattle.job_records.specs.Tables.{Tables, no_rows}
use Rattle.job_records.specs.Changes.{applied_all}
use Rattle.job_records.proofs.Keeping.{applied_append}
use Rattle.record_keeper.specs.Memory.{KeeperMemory}
use Rattle.record_keeper.proofs.memory.MemoryKeeperKeeper.save.Goals as goal

pub returns-in-Ok-keep-clause-saved : goal.returns-in-Ok-keep-clause-saved
returns-in-Ok-keep-clause-saved c =
    let old = c.args.self.now.saved in
    let new = c.args.changes.now in
    let behind : c.keep.new.self.saved ≡ old ++ new = ap (λ (m : KeeperMemory). m.saved) c.in-Ok-keep.ensures.kept ∙ ap (λ (m : KeeperMemory). m.saved ++ new) c.called.ensures.after in
    ap (λ (cs : List Change). Some (applied_all no_rows cs)) behind ∙ ap (λ (t : Tables). Some t) (applied_append no_rows old new)
