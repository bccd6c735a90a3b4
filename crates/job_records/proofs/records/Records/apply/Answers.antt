use Rattle.std.proofs.Common.{◌≡◌, ◌∙◌, ◌+◌, drop, sym, arith}
use Rattle.std.proofs.lemmas.List.{drop-drop}
use Rattle.job_records.proofs.DropLemmas.{applied_all-rest, allowed-rest, room-rest}
use Rattle.job_records.proofs.records.Records.apply.Goals as goal

pub loop-at-preserved : goal.loop-at-preserved
loop-at-preserved c =
    let count = c.apply_next-at.result in
    let old = c.loop-at.self.kept in
    let new = c.apply_next-at.new.self.kept in
    let left = drop c.loop-at.at c.loop-at.changes.items in
    let rest : drop (c.loop-at.at + count) c.apply_next-at.new.changes.items ≡ drop count left =
    c.apply_next-at.ensures.rest ∙ sym (drop-drop count c.loop-at.at c.loop-at.changes.items) in
    record {
      within = omega arith;
      kept = rw rest (applied_all-rest old new count left c.apply_next-at.ensures.kept ∙ c.loop-at.invariant.kept);
      allowed = rw rest (allowed-rest old new count left c.apply_next-at.ensures.kept c.loop-at.invariant.allowed);
      room = rw rest (room-rest c.loop-at.self.room c.apply_next-at.new.self.room count left c.apply_next-at.ensures.room c.loop-at.invariant.room);
    }
