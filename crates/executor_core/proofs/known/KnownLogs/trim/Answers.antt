use Rattle.std.proofs.Common.{◌∙◌}
use Rattle.executor_core.proofs.LastRuns.{Trimmed, first_trimmed, first_left, trim_last, trim_known}
use Rattle.executor_core.proofs.known.KnownLogs.trim.Goals as goal

dropped : (c : goal.After-drop_first) → Trimmed c.args.at c.args.held.now.ids c.args.queues.now.on_runners c.self.inside.last_runs.items c.self.inside.rows.entries c.drop_rows.new.rows.entries
dropped c =
    first_trimmed c.args.at c.args.held.now.ids c.args.queues.now.on_runners c.old_len-old.result c.self.inside.last_runs.items c.self.inside.rows.entries c.drop_rows.new.rows.entries c.old_len-old.ensures.rest c.drop_rows.ensures.known

pub invariant_of-self : goal.invariant_of-self
invariant_of-self c =
    rw (c.drop_first.ensures ∙ first_left c.args.at c.args.held.now.ids c.args.queues.now.on_runners c.old_len-old.result c.self.inside.last_runs.items c.old_len-old.ensures.rest)
    (trim_last c.args.at c.args.held.now.ids c.args.queues.now.on_runners c.self.inside.rows.entries c.drop_rows.new.rows.entries c.self.inside.last_runs.items c.self.invariant c.drop_rows.ensures.once (dropped c))

pub returns : goal.returns
returns c = rw (← c.self.view_is) (trim_known c.args.at c.args.held.now.ids c.args.queues.now.on_runners c.self.inside.rows.entries c.drop_rows.new.rows.entries c.self.inside.last_runs.items c.self.invariant c.drop_rows.ensures.once (dropped c))
