-- The words of a command.
use Rattle.std.specs.Prelude.{ℕ, ◌+◌, ◌-◌, ◌*◌, ◌==◌, ◌&&◌, nat_le, ℤ, pos, neg_ℤ, nat_abs, List, [], ◌∷◌, Option, Some, None, codes, option_map, option_and_then, if◌then◌else◌}
use Rattle.std.specs.Char.{is_ascii_digit}
use Rattle.std.specs.Str.{bytes_eq}
use Rattle.job_values.specs.declared.limits.TheConstants.{LAST_OFFSET}
use Rattle.cluster_history.specs.declared.settings.Settings.{Settings}
use Rattle.replay_program.specs.declared.limits.TheConstants.{MOST_FAST, MOST_SLOW}

-- the number that decimal digits spell, behind those that were read before
abbrev pub digits_from : ℕ → List ℕ → Option ℕ
digits_from before [] = Some before
digits_from before (b ∷ bs) = if is_ascii_digit b then digits_from (before * 10 + (b - 48)) bs else None

-- the number that a word spells: decimal digits without leading zeros
abbrev pub number_said : List ℕ → Option ℕ
number_said [] = None
number_said (b ∷ []) = digits_from 0 (b ∷ [])
number_said (b ∷ c ∷ bs) = if b == 48 then None else digits_from 0 (b ∷ c ∷ bs)

-- a number from the least to the greatest
abbrev pub in_bounds : ℕ → ℕ → ℕ → Option ℕ
in_bounds least greatest n = if nat_le least n && nat_le n greatest then Some n else None

abbrev pub number_within : ℕ → ℕ → List ℕ → Option ℕ
number_within least greatest word = option_and_then (in_bounds least greatest) (number_said word)

-- an offset in seconds, with `-` in front of one behind UTC
abbrev pub offset_said : List ℕ → Option ℤ
offset_said [] = None
offset_said (b ∷ bs) =
    if b == 45
    then option_map (λ n. neg_ℤ (pos n)) (number_within 0 (nat_abs LAST_OFFSET) bs)
    else option_map pos (number_within 0 (nat_abs LAST_OFFSET) (b ∷ bs))

-- the settings of `run` alone: no offset, 8 threads for the fast pool and 4 for the slow one
abbrev pub usual_settings : Settings
usual_settings = record { offset = pos 0; fast = 8; slow = 4 }

abbrev pub settings_from : Option ℤ → Option ℕ → Option ℕ → Option Settings
settings_from (Some offset) (Some fast) (Some slow) = Some (record { offset = offset; fast = fast; slow = slow })
settings_from _ _ _ = None

-- the settings that the words of a command name; none where they are no command
abbrev pub settings_said : List (List ℕ) → Option Settings
settings_said (word ∷ []) = if bytes_eq word (codes "run") then Some usual_settings else None
settings_said (word ∷ offset ∷ fast ∷ slow ∷ []) =
    if bytes_eq word (codes "run")
    then settings_from (offset_said offset) (number_within 1 MOST_FAST fast) (number_within 1 MOST_SLOW slow)
    else None
settings_said _ = None
