use Rattle.std.proofs.Common.{Result, Ok, Err, OnOk}
use Rattle.executor_core.proofs.LastRuns.{same_known, same_last, line_told}
use Rattle.executor_core.proofs.known.KnownLogs.reserve_line.Goals as goal

pub invariant_of-self : goal.invariant_of-self
invariant_of-self c = same_last c.self.inside.rows.entries c.reserve_line.new.rows.entries c.self.inside.last_runs.items c.self.invariant c.reserve_line.ensures.once c.reserve_line.ensures.known

pub returns-clause-known : goal.returns-clause-known
returns-clause-known c = rw (← c.self.view_is) (same_known c.self.inside.rows.entries c.reserve_line.new.rows.entries c.self.invariant.once c.reserve_line.ensures.once c.reserve_line.ensures.known)

on_ok : {T E : Type 0} (r : Result T E) (P Q : Type 0) → (P → Q) → OnOk r P → OnOk r Q
on_ok (Ok x) P Q f h = f h
on_ok (Err e) P Q f h = h

pub returns-clause-room : goal.returns-clause-room
returns-clause-room c = on_ok c.reserve_line.result _ _ (line_told c.args.log c.reserve_line.new.rows.entries) c.reserve_line.ensures.room
