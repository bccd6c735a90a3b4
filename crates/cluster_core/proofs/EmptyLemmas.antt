-- A cluster in which no admin runs, and the one without rows.
use Rattle.std.proofs.lemmas.List.Elements.{All-nil}
use Rattle.job_records.specs.Rules.{KeepsRules}
use Rattle.std.proofs.Common.{◌≡◌, ℕ, List, [], map, length, replicate, None, refl, sym, ap, subst, ◌∙◌, arith}
use Rattle.job_values.specs.declared.limits.TheConstants.{ADMINS}
use Rattle.job_records.specs.Room.{RecordsState}
use Rattle.job_records.specs.Rows.{RisesFrom}
use Rattle.cluster_history.specs.declared.taken.TakenLog.{TakenLog}
use Rattle.job_records.specs.Tables.{no_rows}
use Rattle.cluster_history.specs.declared.settings.Settings.{Settings}
use Rattle.cluster_history.specs.History.{History, Begin, empty_opening}
use Rattle.cluster_history.specs.Nodes.{admins}
use Rattle.cluster_plan.specs.declared.node.Node.{Node}
use Rattle.cluster_plan.specs.Nodes.{NodeKept, node_in, node_at, idle}
use Rattle.cluster_plan.specs.Kept.{IsSound, IsWithinLimits}
use Rattle.cluster_core.specs.Kept.{kept_of}
use Rattle.cluster_plan.specs.Stands.{Stands, node_of}
use Rattle.cluster_core.proofs.SoundLemmas.{limits-none}
use Rattle.cluster_plan.proofs.AdminLemmas.{map-same}
use Rattle.cluster_plan.proofs.RingLemmas.{ring-none}
use Rattle.cluster_plan.proofs.StandsLemmas.{node-by}

-- no rows keep the rules
no-rows_keep : KeepsRules no_rows
no-rows_keep = record {
  groups = record { rising = omega arith; last_id = omega arith; few = omega arith };
  jobs = record { rising = omega arith; last_id = omega arith; running = All-nil _; schedules = All-nil _; zones = All-nil _; groups_exist = All-nil _; few = omega arith };
  logs = record { rising = omega arith; last_id = omega arith; addresses = All-nil _ };
  registry = record { rising = λ i j d before within. absurd (omega arith); named = All-nil _; few = omega arith; few_of_key = λ key. omega arith };
}

-- no admin runs
abbrev pub AreIdle : List Node → Type 0
AreIdle nodes = map node_in nodes ≡ replicate ADMINS idle

-- so it is after a history in which none runs, no ticket waits and no log
pub idle-after : (h : History) (nodes : List Node) → AreIdle nodes → ((admin : ℕ) → idle ≡ node_of h admin) → map node_in nodes ≡ map (node_of h) admins
idle-after h nodes none each = none ∙ map-same (λ admin. idle) (node_of h) each admins

-- with rows that keep the rules it is sound
pub sound-idle : (settings : Settings) (records : RecordsState) (taken : List TakenLog) (nodes : List Node) → taken ≡ [] → KeepsRules records.kept → AreIdle nodes
    → IsSound (kept_of (record { settings = settings; records = records; scan = None; taken = taken; taken_room = 0; nodes = nodes }))
sound-idle settings records taken nodes untaken rules none = record {
  nodes = ap length none;
  rules = rules;
  taken = subst (RisesFrom (λ t. t.log) 0) (sym untaken) tt;
  limits = λ a. subst (λ (ns : List NodeKept). IsWithinLimits (node_at ns a).pools) (sym none) (limits-none (replicate ADMINS idle) a);
}

-- a new cluster stands for its opening
pub stands-empty : (settings : Settings) (records : RecordsState) (taken : List TakenLog) (nodes : List Node) → taken ≡ [] → records.kept ≡ no_rows → AreIdle nodes
    → Stands (kept_of (record { settings = settings; records = records; scan = None; taken = taken; taken_room = 0; nodes = nodes })) (Begin (empty_opening settings))
stands-empty settings records taken nodes untaken rows none = record {
  opens = record { rules = no-rows_keep; sent = All-nil _ };
  within = tt;
  answered = tt;
  keeps = record {
    settings = refl;
    tables = rows;
    scan = refl;
    taken = untaken;
    nodes = idle-after (Begin (empty_opening settings)) nodes none (λ a. node-by _ _ _ _ _ _ refl (ring-none a) refl);
  };
}

-- and it is sound
pub sound-empty : (settings : Settings) (records : RecordsState) (taken : List TakenLog) (nodes : List Node) → taken ≡ [] → records.kept ≡ no_rows → AreIdle nodes
    → IsSound (kept_of (record { settings = settings; records = records; scan = None; taken = taken; taken_room = 0; nodes = nodes }))
sound-empty settings records taken nodes untaken rows none = sound-idle settings records taken nodes untaken (subst KeepsRules (sym rows) no-rows_keep) none
