-- What a change makes of the rows.
use Rattle.std.specs.Prelude.{List, [], ◌∷◌, filter, not}
pub use Rattle.rising_rows.specs.Rising.{put_row, without}
pub use Rattle.rising_rows.specs.Seats.{put_by}
use Rattle.job_records.specs.declared.change.Change.{Change}
use Rattle.job_records.specs.declared.change.Change.TheVariants as change
use Rattle.job_records.specs.Order.{key_order, is_registered}
use Rattle.job_records.specs.Rules.{KeepsRules}
use Rattle.job_records.specs.Tables.{Tables}

-- the tables after a change
abbrev pub applied : Tables → Change → Tables
applied t (change.PutGroup group) = record t { groups = put_row (λ g. g.id) group t.groups }
applied t (change.PutJob job) = record t { jobs = put_row (λ j. j.id) job t.jobs }
applied t (change.DropJob id) = record t { jobs = without (λ j. j.id) id t.jobs }
applied t (change.PutLog log) = record t { logs = put_row (λ l. l.id) log t.logs }
applied t (change.DropLog id) = record t { logs = without (λ l. l.id) id t.logs }
applied t (change.PutRegistry row) = record t { registry = put_by (key_order row.key row.value) row t.registry }
applied t (change.DropRegistry key value) = record t { registry = filter (λ row. not (is_registered key value row)) t.registry }
applied t (change.LastIds last) = record t { last = last }

-- the tables after these changes, one after another
abbrev pub applied_all : Tables → List Change → Tables
applied_all t [] = t
applied_all t (c ∷ cs) = applied_all (applied t c) cs

-- each of these changes keeps the rules after those before it
abbrev pub AreAllowed : Tables → List Change → Type 0
AreAllowed t [] = Unit {0}
AreAllowed t (c ∷ cs) = KeepsRules (applied t c) × AreAllowed (applied t c) cs
