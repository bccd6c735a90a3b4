use Rattle.std.proofs.Common.{◌≡◌, List, ℕ, Bool, true, false, not, sym, ap, ◌∙◌, arith}
use Rattle.std.specs.Prelude.{bytes_eq}
use Rattle.std.proofs.lemmas.Slice.Eq.{bytes_eq-Decides}
use Rattle.registry_beats.proofs.ListLemmas.{alike, apart-at}
use Rattle.registry_beats.proofs.lists.is_same.Goals as goal

pub returns-then-ne : goal.returns-then-ne
returns-then-ne c =
    let address : List ℕ = c.as_str.result.now in
    let other : List ℕ = c.as_str-in-loop-place.result.now in
    apart-at c.args.addresses.now c.args.others.now c.loop-place.place c.index-addresses-place.result c.index-others-place.result (omega arith) c.index-addresses-place.is c.index-others-place.is
    (λ same.
    let equal : address ≡ other = c.as_str.ensures ∙ same ∙ sym c.as_str-in-loop-place.ensures in
    let never : true ≡ false = sym c.if-ne.true ∙ c.ne.ensures ∙ ap not ((bytes_eq-Decides address other).1 equal) in
    cc)

pub returns : goal.returns
returns c = alike c.args.addresses.now c.args.others.now (omega arith) (λ k d lt. c.loop-place.invariant k d (omega arith))
