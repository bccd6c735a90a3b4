use Rattle.std.proofs.Common.{◌∙◌, sym}
use Rattle.zone_texts.proofs.Lengths.{result_within, result_near}
use Rattle.zone_texts.proofs.Parts.{zone_whole}
use Rattle.zone_texts.proofs.reading.read_zone.Goals as goal

pub returns-clause-value : goal.returns-clause-value
returns-clause-value c = c.whole.ensures ∙ sym (zone_whole c.args.bytes.now)

pub returns-clause-left : goal.returns-clause-left
returns-clause-left c = result_within c.args.bytes.now c.whole.result (c.whole.ensures ∙ sym (zone_whole c.args.bytes.now))

pub returns-clause-near : goal.returns-clause-near
returns-clause-near c = result_near c.args.bytes.now c.whole.result (c.whole.ensures ∙ sym (zone_whole c.args.bytes.now))
