use Rattle.std.proofs.Common.{◌≡◌, ◌∙◌, ◌+◌, ap, sym, arith, take, length, [], ◌∷◌, ◌++◌, true}
use Rattle.std.proofs.lemmas.List.{take_more, take_all}
use Rattle.std.proofs.lemmas.List.Elements.{All-push}
use Rattle.job_records.specs.DropBatches.{dropped_id, is_drop_of}
use Rattle.rising_rows.proofs.RowLemmas.{rising-push, rises-from_rising}
use Rattle.job_records.proofs.drop_batches.first_drops.Goals as goal

pub returns-then-not-is_drop-clause-drops : goal.returns-then-not-is_drop-clause-drops
returns-then-not-is_drop-clause-drops c =
    record {
      all = c.loop-place.invariant.all;
      rising = rises-from_rising dropped_id 0 c.loop-place.last (take c.loop-place.place c.args.changes.now) c.loop-place.invariant.rising;
    }

pub loop-place-preserved : goal.loop-place-preserved
loop-place-preserved c =
    let change = c.index-changes-place.result in
    let front = take c.loop-place.place c.args.changes.now in
    let more : take (c.loop-place.place + 1) c.args.changes.now ≡ front ++ change ∷ [] =
    take_more c.args.changes.now c.loop-place.place change (omega arith) ∙ ap (λ x. front ++ x ∷ []) (sym c.index-changes-place.is) in
    let drop : is_drop_of c.args.kind change ≡ true = sym c.is_drop.ensures ∙ c.if-not-is_drop.false in
    record {
      rising = rw (more, c.key-id.ensures) (rising-push dropped_id 0 c.loop-place.last front change c.loop-place.invariant.rising (omega arith));
      all = rw more (All-push (λ x. is_drop_of c.args.kind x ≡ true) front change c.loop-place.invariant.all drop);
    }

pub returns-clause-drops : goal.returns-clause-drops
returns-clause-drops c =
    let end : take c.loop-place.place c.args.changes.now ≡ c.args.changes.now = take_all c.loop-place.place c.args.changes.now (omega arith) in
    let all : take (length c.args.changes.now) c.args.changes.now ≡ c.args.changes.now = take_all (length c.args.changes.now) c.args.changes.now (omega arith) in
    rw all
    record {
      all = rw end at c.loop-place.invariant.all;
      rising = rises-from_rising dropped_id 0 c.loop-place.last c.args.changes.now (rw end at c.loop-place.invariant.rising);
    }
