use Rattle.std.proofs.Common.{sym, ap, ◌∙◌, ◌++◌, ◌∷◌, [], subst}
use Rattle.turn_lock.proofs.shared.Shared.turn.Goals as goal

pub returns-in-Ok-clause-legally : goal.returns-in-Ok-clause-legally
returns-in-Ok-clause-legally g c o e =
    let stands = c.in-Ok.ensures.done o _ (c.take_out-machine.ensures.machine.stands_for o e) in
    let law = g.met.M.Machine.stands_legally _ _ _ stands in
    subst (g.M.Machine.legal o) (sym (ap (λ m. m.0.seen) c.leave.ensures.left ∙ ap (λ m. m.0.seen) c.count.ensures.counted ∙ ap (λ m. m.0.seen ++ (c.args.event.now, c.in-Ok.reply) ∷ []) c.take_out-machine.ensures.out)) law

pub returns-in-Err-clause-legally : goal.returns-in-Err-clause-legally
returns-in-Err-clause-legally g c o e =
    let stands = c.in-Err.ensures.refused o _ (c.take_out-machine.ensures.machine.stands_for o e) in
    let law = g.met.M.Machine.stands_legally _ _ _ stands.0 in
    subst (g.M.Machine.legal o) (sym (ap (λ m. m.0.seen) c.leave-in-Err.ensures.left ∙ ap (λ m. m.0.seen) c.take_out-machine.ensures.out)) law
