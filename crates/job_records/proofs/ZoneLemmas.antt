-- Which texts say a zone.
use Rattle.std.proofs.Common.{◌≡◌, ℕ, ℤ, List, [], ◌∷◌, true, false, Result, Ok, Err, inl, inr, refl, sym, ◌∙◌}
use Rattle.std.specs.Prelude.{◌↔◌, IsTrue}
use Rattle.std.specs.Result.{is_ok}
use Rattle.job_values.specs.declared.fault.ZoneFault.{ZoneFault}
use Rattle.zone_texts.specs.declared.zone.Zone.{Zone}
use Rattle.zone_texts.specs.Parsed.{zone_parsed}
use Rattle.zone_texts.proofs.ZoneLaws.{zones_are_parsed}
use Rattle.job_records.specs.Rules.{SaysZone}

-- a text with a zone says it
pub zone-says : (text : List ℕ) (offset : ℤ) (zone : Zone) → zone_parsed text offset ≡ Ok zone → SaysZone text
zone-says [] offset zone is = inl refl
zone-says (b ∷ text) offset zone is = inr (zone, zones_are_parsed.found (b ∷ text) offset zone (λ none. absurd (cc)) is)

-- a text with a fault says none
pub zone-faults : (text : List ℕ) (offset : ℤ) (fault : ZoneFault) → zone_parsed text offset ≡ Err fault → SaysZone text → ⊥
unfolding zone_parsed
zone-faults [] offset fault is says = absurd (cc)
zone-faults (b ∷ text) offset fault is (inl none) = absurd (cc)
zone-faults (b ∷ text) offset fault is (inr (zone, said)) = let never : Ok zone ≡ Err fault = sym (zones_are_parsed.again (b ∷ text) offset zone said) ∙ is in absurd (cc)

-- whether a text says a zone is whether it has one, at any offset
pub zone-test : (text : List ℕ) (offset : ℤ) (read : Result Zone ZoneFault) → read ≡ zone_parsed text offset → IsTrue (is_ok read) ↔ SaysZone text
zone-test text offset (Ok zone) is = (λ _. zone-says text offset zone (sym is), λ _. refl)
zone-test text offset (Err fault) is = (λ (never : false ≡ true). absurd (cc), λ says. absurd (zone-faults text offset fault (sym is) says))
