use Rattle.std.proofs.Common.{◌≡◌, take, arith, subst, ◌∙◌}
use Rattle.std.proofs.lemmas.Grind.{common_steps}
use Rattle.std.specs.Str.{IsUtf8}
use Rattle.api_messages.proofs.Cuts.{cut-boundary}
use Rattle.api_messages.proofs.text_member.cut.Goals as goal

pub returns-clause-value : goal.returns-clause-value
returns-clause-value c =
    let e = c.floor_char_boundary-end in
    let front : c.range.result.now ≡ take e.result c.args.from.now = grind (arith, common_steps) in
    front ∙ cut-boundary c.args.from.now c.args.most e.result c.utf8.from (omega arith) e.ensures.bound (subst IsUtf8 front c.range.utf8) e.ensures.nearest
