-- What a text is parsed to, and where it is no zone text.
use Rattle.std.specs.Prelude.{ℕ, ◌+◌, ◌-◌, ℤ, List, [], ◌∷◌, length, Result, Ok, Err}
use Rattle.zone_texts.specs.declared.zone.Zone.{Zone}
use Rattle.job_values.specs.declared.fault.ZoneFault.{ZoneFault}
use Rattle.zone_texts.specs.Grammar.{whole}
use Rattle.zone_texts.specs.ZoneText.{fixed, zone_text}

-- the fault at the byte behind which so many bytes less one are left
abbrev pub placed : List ℕ → Result Zone ℕ → Result Zone ZoneFault
placed text (Ok zone) = Ok zone
placed text (Err left) = Err (record { place = length text - left + 1 })

-- the given offset for the empty text, else what the text says as a zone text
unfoldable pub zone_parsed : List ℕ → ℤ → Result Zone ZoneFault
zone_parsed [] offset = Ok (fixed offset)
zone_parsed (b ∷ text) offset = placed (b ∷ text) (whole zone_text (b ∷ text))
