-- The limits as numbers.
use Rattle.std.specs.Prelude.{◌≡◌}
use Rattle.line_program.specs.declared.limits.TheConstants.{LAST_LINE_BYTES, LAST_INPUT_BYTES}

-- a line has at most 256 KiB before its end, an input at most 256 MiB
abbrev pub LimitsAre : Type 0
LimitsAre = (LAST_LINE_BYTES ≡ 262144) × (LAST_INPUT_BYTES ≡ 268435456)
