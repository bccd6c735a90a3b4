use Rattle.std.proofs.Common.{List, map, sym, ap, ◌∙◌, subst}
use Rattle.std.specs.List.{All}
use Rattle.std.proofs.lemmas.Result.{IfOk-weaker}
use Rattle.job_records.specs.declared.registry.RegistryRow.{RegistryRow}
use Rattle.job_records.specs.Rules.{IsNamed}
use Rattle.registry_beats.specs.Registrations.{rows_left}
use Rattle.registry_beats.proofs.ListLemmas.{few-of_app, named-of_app, values-living}
use Rattle.registry_beats.proofs.lists.list_of.Goals as goal

pub living_values-requires-clause-named : goal.living_values-requires-clause-named
living_values-requires-clause-named c =
    subst (All IsNamed) (sym c.rows_of_key.ensures) (named-of_app c.args.app.now c.args.rows.now c.requires)

pub living_values-requires-clause-few : goal.living_values-requires-clause-few
living_values-requires-clause-few c = rw c.rows_of_key.ensures (few-of_app c.args.app.now c.args.rows.now c.requires)

pub returns : goal.returns
returns c =
    IfOk-weaker c.living_values.result _ _
    (λ addresses is. is ∙ ap (λ (rows : List RegistryRow). map (λ (row : RegistryRow). row.value) (rows_left c.args.at rows)) c.rows_of_key.ensures ∙ values-living c.args.at c.args.app.now c.args.rows.now)
    c.living_values.ensures
