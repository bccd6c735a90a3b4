use Rattle.std.proofs.Common.{[], ◌∷◌, sym, refl, inl, inr, append-nil}
use Rattle.turn_lock.proofs.Gains.{gains_act, gains_see}
use Rattle.shared_counter.specs.Counting.{IsLegal, Refuses}
use Rattle.shared_counter.proofs.callers.add_once.Goals as goal

pub returns-in-Ok-push : goal.returns-in-Ok-push
returns-in-Ok-push g c = record {
  done = record {
    es = (c.args.add, c.in-Ok.reply) ∷ [];
    entries = c.in-Ok-push.ensures.items;
    gains = gains_act IsLegal c.args.seat.now c.act.new.seat (c.args.add, c.in-Ok.reply) c.in-Ok.ensures.same c.in-Ok.ensures.done;
    made = inl (c.in-Ok.reply, refl);
  };
}

pub returns-in-Err : goal.returns-in-Err
returns-in-Err g c =
    let told = c.in-Err.ensures.refused.told in
    record {
      done = record {
        es = [];
        entries = sym (append-nil c.args.entries.now.items);
        gains = gains_see IsLegal c.args.seat.now c.act.new.seat (λ o log. Refuses o log c.args.add c.in-Err.field-0) c.in-Err.ensures.same c.in-Err.ensures.refused;
        made = inr (refl, (told.0, told.1, told.2.1));
      };
    }
