use Rattle.std.proofs.Common.{length, ap, ◌∙◌}
use Rattle.std.specs.Prelude.{bytes_eq}
use Rattle.std.proofs.lemmas.List.Sums.{length-filter}
use Rattle.job_records.specs.declared.registry.RegistryRow.{RegistryRow}
use Rattle.registry_beats.proofs.beats.key_count.Goals as goal

pub returns : goal.returns
returns c = ap length c.rows_of_key.ensures ∙ length-filter (λ (row : RegistryRow). bytes_eq row.key c.args.key.now) c.args.rows.now
