use Rattle.std.proofs.Common.{◌∙◌, lit<}
use Rattle.registry_beats.proofs.ListLemmas.{few-values}
use Rattle.registry_beats.proofs.lists.living_values.Goals as goal

pub of-requires-3 : goal.of-requires-3
of-requires-3 c =
    (lit< tt, few-values c.args.at c.loop-row.row-index c.args.rows.now c.of-2.result (c.of-2.ensures ∙ c.loop-row.invariant) c.requires.few)
