-- A cluster that is opened over rows that were kept.
use Rattle.std.proofs.Common.{◌≡◌, ℕ, List, [], None, false, refl, sym, ap, subst, ◌∙◌}
use Rattle.std.specs.List.{All}
use Rattle.job_events.specs.declared.cluster.ClusterEvent.TheVariants.{Reopen}
use Rattle.job_records.specs.Room.{RecordsState}
use Rattle.job_records.specs.Rules.{KeepsRules}
use Rattle.job_records.specs.Tables.{Tables}
use Rattle.cluster_history.specs.declared.settings.Settings.{Settings}
use Rattle.cluster_history.specs.declared.taken.TakenLog.{TakenLog}
use Rattle.cluster_history.specs.History.{History, Begin, After}
use Rattle.cluster_history.specs.Records.{records_of}
use Rattle.cluster_history.specs.Replies.{reply_after}
use Rattle.cluster_history.specs.Runs.{OpensWell}
use Rattle.cluster_history.specs.Settling.{is_unsent}
use Rattle.cluster_history.proofs.Openings.{openings-kept}
use Rattle.cluster_plan.specs.declared.node.Node.{Node}
use Rattle.cluster_plan.specs.Stands.{Stands}
use Rattle.cluster_plan.proofs.RingLemmas.{ring-none}
use Rattle.cluster_plan.proofs.StandsLemmas.{node-by}
use Rattle.node_plans.specs.Endings.{unsent_ended}
use Rattle.node_plans.proofs.ReopenLemmas.{all-sent, ended-unsent}
use Rattle.cluster_core.specs.Kept.{kept_of}
use Rattle.cluster_core.specs.Reopened.{opening_over, Leaves}
use Rattle.cluster_core.proofs.EmptyLemmas.{AreIdle, idle-after}

opens-well : (s : Settings) (t rows : Tables) → rows ≡ unsent_ended t → KeepsRules rows → OpensWell (opening_over s rows)
opens-well s t rows is rules = record {
  rules = rules;
  sent = subst (All (λ log. is_unsent log ≡ false)) (sym (ap (λ (u : Tables). u.logs) is)) (all-sent t.logs);
}

-- it stands for no entries over its rows
pub stands-opened : (s : Settings) (t : Tables) (records : RecordsState) (taken : List TakenLog) (nodes : List Node) → taken ≡ [] → records.kept ≡ unsent_ended t → KeepsRules records.kept → AreIdle nodes
    → Stands (kept_of (record { settings = s; records = records; scan = None; taken = taken; taken_room = 0; nodes = nodes })) (Begin (opening_over s records.kept))
stands-opened s t records taken nodes untaken is rules none =
    let well : OpensWell (opening_over s records.kept) = opens-well s t records.kept is rules in record {
      opens = well;
      within = tt;
      answered = tt;
      keeps = record {
        settings = refl;
        tables = sym (openings-kept (opening_over s records.kept) well);
        scan = refl;
        taken = untaken;
        nodes = idle-after (Begin (opening_over s records.kept)) nodes none (λ a. node-by _ _ _ _ _ _ refl (ring-none a) refl);
      };
    }

-- and for each history that left the rows, with the stop of all behind it
pub stands-on : (s : Settings) (t : Tables) (records : RecordsState) (taken : List TakenLog) (nodes : List Node) → taken ≡ [] → records.kept ≡ unsent_ended t → AreIdle nodes → (h : History) → Leaves h s t
    → Stands (kept_of (record { settings = s; records = records; scan = None; taken = taken; taken_room = 0; nodes = nodes })) (After h Reopen (reply_after h Reopen))
stands-on s t records taken nodes untaken is none h left = record {
  opens = left.opens;
  within = (left.within, tt);
  answered = (left.answered, refl, refl);
  keeps = record {
    settings = sym left.settings;
    tables = is ∙ ap unsent_ended (sym left.tables) ∙ ap (λ ls. record (records_of h) { logs = ls }) (sym (ended-unsent h left.opens left.answered));
    scan = refl;
    taken = untaken;
    nodes = idle-after (After h Reopen (reply_after h Reopen)) nodes none (λ a. node-by _ _ _ _ _ _ refl (ring-none a) refl);
  };
}
