-- What is planned for an event.
use Rattle.std.specs.Prelude.{◌≡◌, List, [], drop, Bool, true, false}
use Rattle.std.specs.List.{list_any}
use Rattle.job_events.specs.declared.cluster.ClusterEvent.{ClusterEvent}
use Rattle.job_records.specs.declared.change.Change.{Change}
use Rattle.job_records.specs.declared.change.Change.TheVariants.{LastIds}
use Rattle.job_records.specs.Changes.{AreAllowed}
use Rattle.cluster_history.specs.History.{is_refusal}
use Rattle.cluster_plan.specs.Prepared.{PreparedEvent}
use Rattle.cluster_plan.specs.Kept.{Kept}
use Rattle.cluster_plan.specs.Commits.{committed}
use Rattle.cluster_plan.specs.Stands.{KeptAnswers}

-- whether a change gives the last ids
abbrev pub gives_ids : Change → Bool
gives_ids (LastIds last) = true
gives_ids _ = false

-- the last ids stand before all rows: no change behind the first gives them
abbrev pub HasIdsFirst : List Change → Type 0
HasIdsFirst changes = list_any gives_ids (drop 1 changes) ≡ false

-- the changes of the rows are allowed one after another, the last ids first, a refusal has none, and what they and the rest make of what is kept answers the event
pub record IsPlanned (kept : Kept) (e : ClusterEvent) (prepared : PreparedEvent) : Type 0 where
  pub allowed : AreAllowed kept.tables prepared.changes
  pub ids : HasIdsFirst prepared.changes
  pub refused : is_refusal prepared.reply ≡ true → prepared.changes ≡ []
  pub answers : KeptAnswers kept e prepared.reply (committed kept prepared)
