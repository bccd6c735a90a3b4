use Rattle.std.proofs.Common.{sym, ap, ◌∙◌}
use Rattle.executor_history.specs.Past.{is_among}
use Rattle.executor_core.proofs.IdKeys.{among-own}
use Rattle.executor_core.proofs.ids.Ids.contains.Goals as goal

pub returns : goal.returns
returns c =
    rw (← c.self.view_is)
    (c.contains.ensures ∙ (ap (λ id. is_among id c.self.inside.ids.keys) c.get.ensures.value ∙ sym (among-own c.args.id c.self.inside.ids.keys)))
