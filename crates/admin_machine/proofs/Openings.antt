-- A machine that opens over what a keeper holds.
use Rattle.std.proofs.Common.{◌≡◌, List, [], ◌∷◌, Option, Some, Bool, true, false, map, refl, sym, ap, ◌∙◌, subst}
use Rattle.std.specs.Option.{option_map}
use Rattle.job_events.specs.declared.cluster.ClusterEvent.TheVariants.{Reopen}
use Rattle.job_records.specs.declared.change.Change.{Change}
use Rattle.job_records.specs.Changes.{applied_all}
use Rattle.job_records.specs.Tables.{Tables}
use Rattle.cluster_history.specs.declared.settings.Settings.{Settings}
use Rattle.cluster_history.specs.History.{History, Begin, After, Opening, Entry as HistoryEntry, accepted, after_all, settings_of, opening_of as history_opening}
use Rattle.cluster_history.specs.Replies.{reply_of}
use Rattle.cluster_history.specs.Runs.{IsLegal}
use Rattle.cluster_history.proofs.Answered.{legal_answered, legal_within, accepted_opens, accepted_opening}
use Rattle.cluster_core.specs.Kept.{ClusterState, kept_of}
use Rattle.cluster_core.specs.Stands.{StandsFor}
use Rattle.cluster_core.specs.Reopened.{opening_over, Leaves, GoesOn}
use Rattle.admin_machine.specs.declared.machine.AdminOpening.{AdminOpening}
use Rattle.admin_machine.specs.Views.{Holds}
use Rattle.admin_machine.specs.Standing.{Entry, entry_of, opening_of, history_of, IsLegalList, rows_of, Stands, opening_in}
use Rattle.admin_machine.specs.Opening.{GoesOnFrom}
use Rattle.admin_machine.proofs.Rows.{held-is, saved-holds}
use Rattle.admin_machine.proofs.Steps.{stands-held, stands-push}

-- what a keeper holds after the changes of an opening are saved is what the cluster has
pub opened-holds : (before held : Option Tables) (rows : Tables) (changes : List Change) (cluster : ClusterState) → Holds before rows → held ≡ option_map (λ t. applied_all t changes) before → (kept_of cluster).tables ≡ applied_all rows changes → Holds held (kept_of cluster).tables
opened-holds before held rows changes cluster was saved is =
    subst (λ (h : Option Tables). Holds h (kept_of cluster).tables) (sym saved)
    (subst (Holds (option_map (λ t. applied_all t changes) before)) (sym is) (saved-holds before rows (λ t. applied_all t changes) was))

-- it stands for no entries
pub stands-opened : (held : Option Tables) (s : Settings) (cluster : ClusterState) → StandsFor cluster (Begin (opening_over s (kept_of cluster).tables)) → Holds held (kept_of cluster).tables → Stands held (opening_in cluster) [] cluster
stands-opened held s cluster stands holds =
    let own : StandsFor cluster (Begin (opening_over cluster.settings (kept_of cluster).tables)) = subst (λ (t : Settings). StandsFor cluster (Begin (opening_over t (kept_of cluster).tables))) (sym stands.keeps.settings) stands in
    stands-held held (opening_in cluster) [] cluster own.opens own holds

-- the settings of a history
settings-opened : (h : History) → settings_of h ≡ (history_opening h).settings
settings-opened (Begin o) = refl
settings-opened (After h e r) = settings-opened h

opening-after : (h : History) (entries : List HistoryEntry) → history_opening (after_all h entries) ≡ history_opening h
opening-after h [] = refl
opening-after h (entry ∷ entries) = opening-after (After h entry.event entry.reply) entries

settings-accepted : (o : AdminOpening) (log : List Entry) → settings_of (accepted (history_of o log)) ≡ o.settings
settings-accepted o log =
    settings-opened (accepted (history_of o log))
    ∙ ap (λ (p : Opening). p.settings) (accepted_opening (history_of o log) ∙ opening-after (Begin (opening_of o)) (map entry_of log))

-- and for each legal list that left the rows, with the stop of every admin behind it
pub goes-on : (before held : Option Tables) (s : Settings) (rows : Tables) (cluster : ClusterState) → GoesOn s rows cluster → Holds before rows → Holds held (kept_of cluster).tables → GoesOnFrom before s held cluster
goes-on before held s rows cluster goes was holds o log legal same is =
    let h : History = history_of o log in
    let left : Leaves (accepted (history_of o log)) s rows = record {
      opens = accepted_opens (history_of o log) legal;
      within = legal_within (history_of o log) legal;
      answered = legal_answered (history_of o log) legal;
      settings = settings-accepted o log ∙ same;
      tables = sym (held-is before rows (rows_of o log) was is);
    } in
    stands-push held o log cluster Reopen (reply_of (history_of o log) Reopen) (legal, tt, refl) (goes (history_of o log) left) holds
