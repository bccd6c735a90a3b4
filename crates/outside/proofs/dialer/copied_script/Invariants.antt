use Rattle.std.proofs.Common.{◌≡◌, take}
use Rattle.outside.proofs.dialer.copied_script.Given as goal

-- the items so far were copied
abbrev pub invariant-loop-i : goal.invariant-loop-i
invariant-loop-i l = l.copy.items ≡ take l.i l.script.items
