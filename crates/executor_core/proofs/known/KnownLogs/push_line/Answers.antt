use Rattle.std.proofs.Common.{subst, sym}
use Rattle.executor_core.specs.Rows.{KnownView, LineRoom}
use Rattle.executor_core.proofs.LastRuns.{line_known, line_last, line_kept}
use Rattle.executor_core.proofs.known.KnownLogs.push_line.Goals as goal

pub push_line-requires : goal.push_line-requires
push_line-requires c = let P : KnownView → Type 0 = λ v. LineRoom c.args.log v.lines in line_kept c.args.log c.self.inside.rows.entries (subst P (sym c.self.view_is) c.requires)

pub invariant_of-self : goal.invariant_of-self
invariant_of-self c = line_last c.args.log c.args.line c.self.inside.rows.entries c.push_line.new.rows.entries c.self.inside.last_runs.items c.self.invariant c.push_line.ensures.once c.push_line.ensures.known

pub returns : goal.returns
returns c = rw (← c.self.view_is) (line_known c.args.log c.args.line c.self.inside.rows.entries c.push_line.new.rows.entries c.self.invariant.once c.push_line.ensures.once c.push_line.ensures.known)
