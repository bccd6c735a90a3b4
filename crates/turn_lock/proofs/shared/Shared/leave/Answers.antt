use Rattle.std.proofs.Common.{sym, ap, ◌∙◌, ◌∷◌, Some, arith, subst}
use Rattle.atomic_table.specs.Table.{rest}
use Rattle.turn_lock.proofs.Asked.{may_serve}
use Rattle.turn_lock.specs.Steps.{HoldsMachine}
use Rattle.turn_lock.proofs.shared.Shared.leave.Goals as goal

pub fetch_add-requires : goal.fetch_add-requires
fetch_add-requires g c =
    let e = c.exchange-none.ensures in (
      e.0 ∙ c.requires.here ∙ sym c.self.view_is,
      (let w = c.self.invariant.0 in omega arith),
      may_serve g.M.Machine.stands (g.M.Machine.opening c.self.inside.table.shared.key.value) _ c.self.invariant.1 _ _ (record { machine = c.args.machine; entries = c.args.entries })
          (ap (λ m. m.1) e.3 ∙ ap (λ l. (0, Some (record { machine = c.args.machine; entries = c.args.entries })) ∷ rest l) c.requires.out)
          (subst (λ v. HoldsMachine g.M.Machine.stands v c.args.machine c.args.entries) (sym (ap (λ m. m.0) e.3)) c.requires.machine),
    )
