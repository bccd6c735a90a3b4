use Rattle.std.proofs.Common.{ap, ◌∙◌}
use Rattle.zone_texts.specs.Parsed.{zone_parsed}
use Rattle.job_records.proofs.ZoneLemmas.{zone-test}
use Rattle.job_records.proofs.allow.has_its_zone.Goals as goal

pub returns : goal.returns
returns c =
    rw c.is_ok.ensures.value
    (zone-test c.args.job.now.spec.zone c.in-Some.offset c.parse.result (c.parse.ensures ∙ ap (λ text. zone_parsed text c.in-Some.offset) c.get.ensures.value))
