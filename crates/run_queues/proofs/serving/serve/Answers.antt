use Rattle.std.proofs.Common.{nat_lt, ◌+◌, ◌∙◌}
use Rattle.run_queues.specs.declared.serving.Serving.{Serving}
use Rattle.run_queues.proofs.Puts.{put_fresh, one_more, free_key}
use Rattle.run_queues.proofs.serving.serve.Goals as goal

pub returns-clause-items : goal.returns-clause-items
returns-clause-items c =
    c.put.ensures.rows ∙ put_fresh (λ (s : Serving). s.runner + 1) (λ (s : Serving). nat_lt c.args.new.runner s.runner) c.args.new c.args.serving.now.items (λ s. one_more c.args.new.runner s.runner) (free_key c.args.new.runner c.args.serving.now.items c.requires.free)
