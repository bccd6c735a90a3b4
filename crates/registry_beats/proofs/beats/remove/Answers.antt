use Rattle.std.proofs.Common.{List, ℕ, [], ◌∷◌, ap, ◌∙◌}
use Rattle.std.proofs.lemmas.Result.{IfOk-weaker}
use Rattle.job_records.specs.declared.change.Change.TheVariants.{DropRegistry}
use Rattle.registry_beats.proofs.BeatLemmas.{drop-removes}
use Rattle.registry_beats.proofs.beats.remove.Goals as goal

pub returns : goal.returns
returns c =
    IfOk-weaker c.one_change.result _ _
    (λ changes is. drop-removes c.args.records.now.kept c.args.key.now c.args.value.now changes c.requires
    (is ∙ ap (λ (k : List ℕ). DropRegistry k c.in_ok-value.value ∷ []) c.in_ok-key.ensures ∙ ap (λ (v : List ℕ). DropRegistry c.args.key.now v ∷ []) c.in_ok-value.ensures))
    c.one_change.ensures
