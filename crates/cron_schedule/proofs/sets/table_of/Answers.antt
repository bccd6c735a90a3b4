use Rattle.std.proofs.Common.{◌≡◌, ◌+◌, ◌-◌, arith, ◌∙◌}
use Rattle.std.proofs.lemmas.List.{get_or-replicate}
use Rattle.std.proofs.Math.ListN.{length-set}
use Rattle.std.proofs.lemmas.Grind.{common_steps}
use Rattle.cron_schedule.specs.Sets.{in_field}
use Rattle.cron_schedule.proofs.TableLemmas.{firsts_start, firsts_more, firsts_all}
use Rattle.cron_schedule.proofs.sets.table_of.Goals as goal
use Rattle.cron_schedule.proofs.sets.table_of.Goals.{then-is_in_field, else-is_in_field}

pub loop-at-init : goal.loop-at-init
loop-at-init g c = record {
  firsts = firsts_start (λ w. in_field c.args.field c.args.items.now (c.args.start + w)) (g.row.N - 1) _ (get_or-replicate g.row.N (g.row.N - 1) (g.row.N - 1) 0 (omega arith));
  long = grind (arith, common_steps);
}

pub loop-at-preserved : goal.loop-at-preserved
loop-at-preserved g c = record {
  firsts = firsts_more (λ w. in_field c.args.field c.args.items.now (c.args.start + w)) (g.row.N - 1) c.loop-at.at _ c.loop-at.table (omega arith) (omega arith) (omega (arith, c.loop-at.invariant.long)) c.loop-at.invariant.firsts
      (elim c.if-is_in_field.branch [
        | then-is_in_field w ↦ rw (← c.is_in_field.ensures, w.if-is_in_field.true) w.table-is
        | else-is_in_field w ↦
            let back : c.loop-at.at - 1 + 1 ≡ c.loop-at.at = omega arith in
            rw (← c.is_in_field.ensures, w.if-is_in_field.false) (rw back at w.table-is)
      ]);
  long = length-set c.loop-at.table (c.loop-at.at - 1) _ ∙ c.loop-at.invariant.long;
}

pub returns : goal.returns
returns g c =
    let e : c.loop-at.at ≡ 0 = omega arith in
    firsts_all (λ w. in_field c.args.field c.args.items.now (c.args.start + w)) (g.row.N - 1) c.loop-at.table (rw e at c.loop-at.invariant.firsts)
