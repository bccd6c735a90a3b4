use Rattle.std.proofs.Common.{Option, Some, None, IfSome, ap}
use Rattle.outside.proofs.dialer.BytesDialerDialer.dial.Goals as goal

always : {A : Type 0} (o : Option A) (P : Type 0) → P → IfSome o (λ _. P)
always None P p = tt
always (Some x) P p = p

pub returns-in-Ok-clause-fresh : goal.returns-in-Ok-clause-fresh
returns-in-Ok-clause-fresh c =
    let is = c.in-Ok.ensures.link in
    record {
      place = c.in-Ok.ensures.place;
      seen = always _ _ (ap (λ l. Some l.seen) is);
      taken = always _ _ (ap (λ l. Some l.taken) is);
      met = ap (λ l. l.met) is;
      faults = ap (λ l. l.faults) is;
    }
