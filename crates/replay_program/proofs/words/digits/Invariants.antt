use Rattle.std.proofs.Common.{◌≡◌, ◌+◌, ◌*◌, ◌≤◌, drop}
use Rattle.replay_program.specs.Words.{digits_from}
use Rattle.replay_program.proofs.words.digits.Given as goal

-- what is left goes on from the value as all goes on from 0
abbrev pub invariant-loop-byte : goal.invariant-loop-byte
invariant-loop-byte l =
    (l.value ≤ 10 * l.greatest + 9) × (digits_from l.value (drop l.byte-index l.text) ≡ digits_from 0 l.text)
