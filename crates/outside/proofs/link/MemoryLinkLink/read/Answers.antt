use Rattle.std.proofs.Common.{◌≡◌, ◌||◌, ◌&&◌, refl, length, nat_lt, nat_eq, arith}
use Rattle.std.proofs.Math.Seq.{take-add}
use Rattle.std.proofs.lemmas.List.{drop-drop, take_rest}
use Rattle.outside.proofs.link.MemoryLinkLink.read.Goals as goal
use Rattle.outside.proofs.link.MemoryLinkLink.read.Goals.{then-self, else-self+then-count-eq0, else-self+else-count-eq0}

pub returns-clause-grows : goal.returns-clause-grows
returns-clause-grows c =
    let front = rw take_rest at c.copy_front-count.ensures.front in
    rw (take-add, ← c.self.view_is, front, c.deref-2.ensures.value)

pub returns-clause-after : goal.returns-clause-after
returns-clause-after c =
    let met : c.if-self.self ≡ (c.self.inside.met || (nat_lt 0 (length c.copy_front-count.new.into) && nat_eq c.copy_front-count.result 0)) = elim c.if-self.branch [ then-self w ↦ grind arith | else-self+then-count-eq0 w ↦ grind arith | else-self+else-count-eq0 w ↦ grind arith ] in
    rw (← c.self.view_is) (rw (met, take-add, c.one_more-self-inside.ensures, ← drop-drop) refl)
