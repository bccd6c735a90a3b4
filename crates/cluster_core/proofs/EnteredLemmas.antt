-- Logs that enter the pools of an admin.
use Rattle.std.proofs.Common.{◌≡◌, ℕ, ◌+◌, ◌<◌, List, [], ◌∷◌, ◌++◌, length, get_or, take, refl, sym, ap, ◌∙◌}
use Rattle.std.proofs.lemmas.List.{take_more}
use Rattle.trigger_pool.specs.Pool.{Queues}
use Rattle.cluster_plan.specs.declared.prepared.Entering.{Entering}
use Rattle.cluster_plan.specs.Nodes.{entered, pools_with}

-- one log behind the others
pub entered-behind : (pools : Queues) (logs : List Entering) (log : Entering) → entered pools (logs ++ log ∷ []) ≡ pools_with (entered pools logs) log
entered-behind pools [] log = refl
entered-behind pools (first ∷ logs) log = entered-behind (pools_with pools first) logs log

-- one log more
pub entered-more : (pools : Queues) (logs : List Entering) (i : ℕ) (log : Entering) → i < length logs → log ≡ get_or logs i log → entered pools (take (i + 1) logs) ≡ pools_with (entered pools (take i logs)) log
entered-more pools logs i log within is =
    ap (entered pools) (take_more logs i log within ∙ ap (λ x. take i logs ++ x ∷ []) (sym is)) ∙ entered-behind pools (take i logs) log
