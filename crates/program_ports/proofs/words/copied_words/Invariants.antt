use Rattle.std.proofs.Common.{◌≡◌, take}
use Rattle.program_ports.proofs.words.copied_words.Given as goal

-- the words so far were copied
abbrev pub invariant-loop-i : goal.invariant-loop-i
invariant-loop-i l = l.copy.items ≡ take l.i l.words.items
