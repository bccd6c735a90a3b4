use Rattle.std.proofs.Common.{◌≡◌, take}
use Rattle.outside.proofs.clock.copied_moments.Given as goal

-- the moments so far were copied
abbrev pub invariant-loop-i : goal.invariant-loop-i
invariant-loop-i l = l.copy.items ≡ take l.i l.moments.items
