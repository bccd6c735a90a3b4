use Rattle.zone_texts.proofs.ZoneLaws.{zones_are_parsed}
use Rattle.zone_texts.proofs.laws.law_zones_are_parsed.Goals as goal

pub returns : goal.returns
returns c = zones_are_parsed
