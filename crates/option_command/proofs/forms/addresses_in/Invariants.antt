use Rattle.std.proofs.Common.{◌≡◌, ◌-◌, ◌≤◌, map, take, vec_len}
use Rattle.option_words.specs.Forms.{Each, IsOneAddress}
use Rattle.option_command.proofs.forms.addresses_in.Given as goal

-- the parts so far are addresses, and stand in the list
abbrev pub invariant-loop-at : goal.invariant-loop-at
invariant-loop-at l =
    (l.list.items ≡ map (λ p. p.now) (take l.at l.parts.items)) × Each IsOneAddress (map (λ p. p.now) (take l.at l.parts.items)) × (l.at ≤ vec_len l.parts)

abbrev pub decreases-loop-at : goal.decreases-loop-at
decreases-loop-at l = vec_len l.parts - l.at
