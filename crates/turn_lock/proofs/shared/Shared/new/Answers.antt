use Rattle.std.proofs.Common.{sym, subst, refl, Some, ◌∷◌, []}
use Rattle.atomic_table.specs.Table.{opening}
use Rattle.turn_lock.specs.Turns.{Kept}
use Rattle.turn_lock.specs.Steps.{newcomer}
use Rattle.turn_lock.proofs.Meeting.{begins}
use Rattle.turn_lock.proofs.Seated.{first_seated}
use Rattle.turn_lock.proofs.shared.Shared.new.Goals as goal

pub new-requires : goal.new-requires
new-requires g c =
    let value = c.of-first.ensures in
    let o = g.M.Machine.opening c.of-first.result.value in
    let stands = subst (λ m. g.M.Machine.stands (g.M.Machine.opening m) [] c.args.machine) (sym value) c.requires in
    subst (λ xs. Kept g.M.Machine.stands o (opening (0 ∷ 0 ∷ 0 ∷ []) xs (newcomer (Some o) [] 9223372036854775808))) (sym c.in_ok-slots.ensures) (begins g.M.Machine.stands o (record { machine = c.args.machine; entries = 0 }) stands refl)

pub invariant_of-result-in-Ok : goal.invariant_of-result-in-Ok
invariant_of-result-in-Ok g c =
    let value = c.of-first.ensures in
    let law = g.met.M.Machine.stands_legally _ _ _ c.requires in
    first_seated g.M.Machine.legal (g.M.Machine.opening c.of-first.result.value) _ c.in-Ok.ensures.ok.4 (subst (λ m. g.M.Machine.legal (g.M.Machine.opening m) []) (sym value) law)
