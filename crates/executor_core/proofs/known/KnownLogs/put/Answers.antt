use Rattle.std.proofs.Common.{◌≤◌, subst, sym, arith}
use Rattle.executor_core.specs.Rows.{KnownView}
use Rattle.executor_core.proofs.LastRuns.{was_last, run_last, run_known}
use Rattle.executor_core.proofs.known.KnownLogs.put.Goals as goal

pub renew-requires-clause-known : goal.renew-requires-clause-known
renew-requires-clause-known c = was_last c.args.log c.self.inside.rows.entries c.self.inside.last_runs.items c.last_moment-before.result c.self.invariant c.last_moment-before.ensures

pub renew-requires-clause-room : goal.renew-requires-clause-room
renew-requires-clause-room c =
    let P : KnownView → Type 0 = λ v. 1 ≤ v.room in
    omega (arith, subst P (sym c.self.view_is) c.requires)

pub put_run-requires : goal.put_run-requires
put_run-requires c =
    let P : KnownView → Type 0 = λ v. 1 ≤ v.room in
    omega (arith, subst P (sym c.self.view_is) c.requires)

pub invariant_of-self : goal.invariant_of-self
invariant_of-self c =
    rw c.renew.ensures
    (run_last c.args.log c.args.moment c.self.inside.rows.entries c.put_run.new.rows.entries c.self.inside.last_runs.items c.self.invariant c.put_run.ensures.once (omega arith) (omega arith) c.put_run.ensures.known)

pub returns : goal.returns
returns c = rw (← c.self.view_is) (run_known c.args.log c.args.moment c.self.inside.rows.entries c.put_run.new.rows.entries c.self.invariant.once c.put_run.ensures.once c.put_run.ensures.known)
