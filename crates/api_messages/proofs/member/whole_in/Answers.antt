use Rattle.std.proofs.Common.{arith, rules, ◌∙◌, ◌≤ℤ◌, pos}
use Rattle.std.proofs.lemmas.Int.{ints, to_z-of_z}
use Rattle.serde_json.specs.View.{view}
use mir.Syntax.{w64}
use mir.Val.{SFits}
use Rattle.api_messages.proofs.Numbers.{same_whole}
use Rattle.api_messages.proofs.member.whole_in.Goals as goal

pub returns-clause-value : goal.returns-clause-value
returns-clause-value c =
    let most : c.args.high ≤ℤ pos 9223372036854775807 = omega (arith, ints) in
    let f : SFits w64 c.args.low = search rules in
    let g : SFits w64 c.args.high = search rules in
    c.within.ensures.value ∙ rw c.as_i64.ensures (simp to_z-of_z (same_whole c.args.low c.args.high (view c.args.value.now) most))
