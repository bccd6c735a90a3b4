use Rattle.std.proofs.Common.{◌≡◌, min, take, true}
use Rattle.std.specs.List.{list_all}
use Rattle.std.specs.Char.{is_ascii_digit}
use Rattle.std.specs.Str.Parse.{digits_value}
use Rattle.http_reading.proofs.plan.sized.Given as goal

-- the digits so far, and their number up to one more than a body may have
abbrev pub invariant-loop-digit : goal.invariant-loop-digit
invariant-loop-digit l =
    (list_all is_ascii_digit (take l.digit-index l.value) ≡ true) × (l.length ≡ min (digits_value 10 (take l.digit-index l.value)) 1048577)
