use Rattle.std.proofs.Common.{arith}
use Rattle.job_records.proofs.IndexLemmas.{due-first, due-more}
use Rattle.job_records.proofs.job_rows.drop_each.Goals as goal

pub loop-drop-init : goal.loop-drop-init
loop-drop-init c = record { keys = due-first c.args.jobs.now c.args.drops.now c.args.due.now.keys c.requires.keys; room = omega arith }

pub loop-drop-preserved : goal.loop-drop-preserved
loop-drop-preserved c = record {
  keys = due-more c.args.drops.now c.loop-drop.drop-index c.drop-item.result c.args.jobs.now c.loop-drop.due.keys c.drop_one.new.due.keys c.requires.rising c.loop-drop-test.true c.drop-item.is c.loop-drop.invariant.keys
      (rw c.key.ensures at c.drop_one.ensures.keys);
  room = omega (arith, c.loop-drop.invariant.room, c.drop_one.ensures.room);
}
