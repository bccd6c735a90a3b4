-- One firing of a job.
use Rattle.std.proofs.Common.{◌≡◌, ℕ, ◌+◌, ◌<◌, ◌≤◌, List, [], ◌++◌, true, false, cond, nat_lt, length, map, ap, ◌∙◌, Vec, Global, arith}
use Rattle.std.proofs.lemmas.Bool.Decides.{nat_tests}
use Rattle.std.proofs.lemmas.List.FromFn.{length-map-range_with_len}
use Rattle.job_values.specs.declared.words.TriggerKind.{TriggerKind}
use Rattle.job_records.specs.declared.group.Group.{Group}
use Rattle.job_records.specs.declared.job.Job.{Job}
use Rattle.job_records.specs.declared.last_ids.LastIds.{LastIds}
use Rattle.job_events.specs.declared.cluster.ClusterReply.{ClusterReply}
use Rattle.job_events.specs.declared.cluster.ClusterRefusal.TheVariants.{IdsSpent}
use Rattle.cluster_history.specs.Replies.{if_ids, refused}
use Rattle.cluster_history.specs.Firings.{Shot, shots_with, shot_for, shards}
use Rattle.cluster_history.specs.Groups.{group_with, addresses_in}
use Rattle.cluster_history.specs.Openings.{Pools, placed_from, opened_of}
use Rattle.log_opening.specs.declared.firing.Fired.{Fired}
use Rattle.log_opening.specs.declared.opening.Openings.{Openings}
use Rattle.cluster_plan.specs.declared.prepared.Entering.{Entering}
use Rattle.log_opening.specs.Firing.{Fires}
use Rattle.log_opening.specs.Openings.{pools_then, OpensBehind, told_of, put_of, entering_of, opening_changes}

-- how many logs a firing opens
pub count-shots : (groups : List Group) (param : List ℕ) (kind : TriggerKind) (at : ℕ) (row : Job) → length (shots_with groups param kind at row) ≡ shards row.spec.route (addresses_in (group_with row.spec.group groups))
count-shots groups param kind at row =
    length-map-range_with_len (λ index. shot_for row param kind at (shards row.spec.route (addresses_in (group_with row.spec.group groups))) index) 0 (shards row.spec.route (addresses_in (group_with row.spec.group groups)))

-- logs that were opened where there were none before are those of a firing
pub fires-opened : (last : LastIds) (pools : Pools) (shots : List Shot) (before after : Openings) (fired : Fired) → before.last ≡ last.log → (pools_then before) ≡ pools → before.puts.items ≡ [] → before.entering.items ≡ []
    → OpensBehind shots before after → fired.changes.items ≡ opening_changes last after.last after.puts.items → fired.entering ≡ after.entering → fired.opened ≡ told_of shots before → Fires last pools shots fired
fires-opened last pools shots before after fired ids pool none nor opens changes entering told =
    let same : placed_from before.last (pools_then before) shots ≡ placed_from last.log pools shots = ap (λ n. placed_from n (pools_then before) shots) ids ∙ ap (λ n. placed_from last.log n shots) pool in
    record {
      ids = omega (arith, opens.ids, opens.room, ids);
      changes = changes ∙ ap (λ n. opening_changes last n after.puts.items) (opens.ids ∙ ap (λ n. n + length shots) ids)
          ∙ ap (λ ps. opening_changes last (last.log + length shots) ps) (opens.puts ∙ ap (λ ps. ps ++ map put_of (placed_from before.last (pools_then before) shots)) none ∙ ap (map put_of) same);
      entering = ap (λ (es : Vec Entering Global). es.items) entering ∙ opens.entering ∙ ap (λ es. es ++ map entering_of (placed_from before.last (pools_then before) shots)) nor ∙ ap (map entering_of) same;
      opened = told ∙ ap (map opened_of) same;
    }

-- no log is opened where an id would pass its greatest value
pub ids-spent : (last count : ℕ) (answer : ClusterReply) → 9223372036854775807 < last + count → if_ids last count answer ≡ refused IdsSpent
ids-spent last count answer over = let test : nat_lt 9223372036854775807 (last + count) ≡ true = grind (arith, nat_tests) in ap (λ b. cond b (refused IdsSpent) answer) test

pub ids-left : (last count : ℕ) (answer : ClusterReply) → last + count ≤ 9223372036854775807 → if_ids last count answer ≡ answer
ids-left last count answer room = let test : nat_lt 9223372036854775807 (last + count) ≡ false = grind (arith, nat_tests) in ap (λ b. cond b (refused IdsSpent) answer) test
