use Rattle.std.proofs.Common.{map, ◌∙◌}
use Rattle.job_lane.specs.Runs.{expired_run}
use Rattle.run_queues.specs.Order.{lane_of}
use Rattle.run_queues.proofs.Served.{more_served, own_job}
use Rattle.run_queues.proofs.lanes.expire_served.Goals as goal

pub loop-served-preserved : goal.loop-served-preserved
loop-served-preserved c = (
  λ j. c.expire.ensures.queues j ∙ c.loop-served.invariant.0 j,
  λ j. more_served c.args.now j c.args.serving.now c.loop-served.served-index c.served-item.result c.loop-served-test.true c.served-item.is
      (lane_of j c.args.lanes.now.entries).on_runners (lane_of j c.loop-served.lanes.entries).on_runners (lane_of j c.expire.new.lanes.entries).on_runners (c.loop-served.invariant.1 j) (c.expire.ensures.on_runners j ∙ own_job (map (expired_run c.args.now)) c.loop-served.lanes.entries c.served-item.result.job j),
  c.expire.ensures.once,
)
