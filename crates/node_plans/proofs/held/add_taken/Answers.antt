use Rattle.std.proofs.Common.{◌≡◌, ℕ, List, [], ◌∷◌, ◌++◌, ◌+◌, true, false, cond, eqb, take, ap, sym, ◌∙◌, append-nil}
use Rattle.std.proofs.lemmas.List.{append_assoc}
use Rattle.cluster_history.specs.declared.taken.TakenLog.{TakenLog}
use Rattle.node_plans.specs.Endings.{taken_in}
use Rattle.node_plans.proofs.HeldLemmas.{taken-more}
use Rattle.node_plans.proofs.held.add_taken.Goals as goal
use Rattle.node_plans.proofs.held.add_taken.Goals.{then-eq+in_ok-add_log, else-eq}

pub loop-one-preserved : goal.loop-one-preserved
loop-one-preserved c =
    let admin : ℕ = c.args.admin in
    let taken : List TakenLog = c.deref-one-items.result.now in
    let one : TakenLog = c.one-item.result in
    let old : List ℕ = c.args.ids.now.items in
    let before : List ℕ = taken_in (take c.loop-one.one-index c.deref-one-items.result.now) c.args.admin in
    let more : taken_in (take (c.loop-one.one-index + 1) c.deref-one-items.result.now) c.args.admin ≡ taken_in (take c.loop-one.one-index c.deref-one-items.result.now) c.args.admin ++ cond (eqb c.one-item.result.admin c.args.admin) (c.one-item.result.log ∷ []) [] =
    taken-more taken admin c.loop-one.one-index one c.loop-one-test.true c.one-item.is in
    elim c.if-eq.branch [
      | then-eq+in_ok-add_log w ↦
          let test : eqb c.one-item.result.admin c.args.admin ≡ true = sym c.eq.ensures ∙ w.if-eq.true in
          let here : cond (eqb c.one-item.result.admin c.args.admin) (c.one-item.result.log ∷ []) [] ≡ c.one-item.result.log ∷ [] = ap (λ b. cond b (c.one-item.result.log ∷ []) []) test in
          cc (more, here, w.in_ok-add_log.ensures, w.ids-is, c.loop-one.invariant, append_assoc old before (c.one-item.result.log ∷ []))
      | else-eq w ↦
          let test : eqb c.one-item.result.admin c.args.admin ≡ false = sym c.eq.ensures ∙ w.if-eq.false in
          let here : cond (eqb c.one-item.result.admin c.args.admin) (c.one-item.result.log ∷ []) [] ≡ [] = ap (λ b. cond b (c.one-item.result.log ∷ []) []) test in
          cc (more, here, append-nil before, w.ids-is, c.loop-one.invariant)
    ]
