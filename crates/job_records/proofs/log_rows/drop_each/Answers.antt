use Rattle.std.proofs.Common.{arith}
use Rattle.job_records.specs.LogClasses.{is_unmarked, is_awaited}
use Rattle.job_records.proofs.IndexLemmas.{ids-first, ids-more_log}
use Rattle.job_records.proofs.log_rows.drop_each.Goals as goal

pub loop-drop-init : goal.loop-drop-init
loop-drop-init c = record {
  failed = ids-first is_unmarked c.args.logs.now c.args.drops.now c.args.index.now.failed c.requires.failed;
  awaited = ids-first is_awaited c.args.logs.now c.args.drops.now c.args.index.now.awaited c.requires.awaited;
  room = omega arith;
}

pub loop-drop-preserved : goal.loop-drop-preserved
loop-drop-preserved c = record {
  failed = ids-more_log is_unmarked c.args.drops.now c.loop-drop.drop-index c.drop-item.result c.args.logs.now c.loop-drop.index.failed c.drop_one.new.index.failed c.requires.rising c.loop-drop-test.true c.drop-item.is
      c.loop-drop.invariant.failed (rw c.key.ensures at c.drop_one.ensures.failed);
  awaited = ids-more_log is_awaited c.args.drops.now c.loop-drop.drop-index c.drop-item.result c.args.logs.now c.loop-drop.index.awaited c.drop_one.new.index.awaited c.requires.rising c.loop-drop-test.true c.drop-item.is
      c.loop-drop.invariant.awaited (rw c.key.ensures at c.drop_one.ensures.awaited);
  room = omega (arith, c.loop-drop.invariant.room, c.drop_one.ensures.room);
}
