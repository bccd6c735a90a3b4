use Rattle.std.proofs.Common.{◌≡◌, ◌<◌, Some, length, sym, ◌∙◌, arith}
use Rattle.std.specs.List.{slice_get}
use Rattle.row_indexes.proofs.ReadLemmas.{get-within}
use Rattle.job_records.specs.LogClasses.{is_awaited, log_ids}
use Rattle.settle_log.proofs.ChoiceLemmas.{lost-here, lost-later, lost-none, few-awaited, past-end}
use Rattle.settle_log.proofs.losses.lost_of.Goals as goal

pub returns-then-lost_with-clause-log : goal.returns-then-lost_with-clause-log
returns-then-lost_with-clause-log g c =
    let tables = c.args.records.now.kept in
    lost-here c.args.now tables.registry tables.logs c.loop-place.place c.in-Some.id c.log_index-index.ensures.rising c.loop-place.invariant.none (sym (rw c.log_index-index.ensures.awaited at c.in-Some.ensures.log))
    (sym c.lost_with.ensures ∙ c.if-lost_with.true)

pub returns-in-None-clause-log : goal.returns-in-None-clause-log
returns-in-None-clause-log g c =
    let tables = c.args.records.now.kept in
    lost-none c.args.now tables.registry tables.logs c.loop-place.place c.loop-place.invariant.none
    (past-end (log_ids is_awaited tables.logs) c.loop-place.place (sym (rw c.log_index-index.ensures.awaited at c.in-None.ensures.log)))

pub loop-place-preserved : goal.loop-place-preserved
loop-place-preserved g c =
    let tables = c.args.records.now.kept in
    let read : slice_get (log_ids is_awaited tables.logs) c.loop-place.place ≡ Some c.in-Some.id = sym (rw c.log_index-index.ensures.awaited at c.in-Some.ensures.log) in
    let within : c.loop-place.place < length (log_ids is_awaited tables.logs) = get-within (log_ids is_awaited tables.logs) c.loop-place.place c.in-Some.id read in
    record {
      none = lost-later c.args.now tables.registry tables.logs c.loop-place.place c.in-Some.id c.log_index-index.ensures.rising c.loop-place.invariant.none read (sym c.lost_with.ensures ∙ c.if-lost_with.false);
      within = omega arith;
      steps = omega (arith, c.loop-place.invariant.steps, c.open_at.ensures.steps);
    }

pub returns-clause-log : goal.returns-clause-log
returns-clause-log g c =
    let tables = c.args.records.now.kept in
    lost-none c.args.now tables.registry tables.logs c.loop-place.place c.loop-place.invariant.none
    (omega (arith, few-awaited tables.logs, rw c.logs-place-end.ensures at c.loop-place-test.false))
