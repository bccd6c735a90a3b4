-- Each zone text is parsed, and each other text has its place.
use Rattle.std.proofs.Common.{◌≡◌, ◌≢◌, ℕ, ◌+◌, ◌-◌, ℤ, List, [], ◌∷◌, length, Result, Ok, Err, refl, sym, ap, arith, length-append}
use Rattle.job_values.specs.declared.fault.ZoneFault.{ZoneFault}
use Rattle.zone_texts.specs.declared.zone.Zone.{Zone}
use Rattle.zone_texts.specs.Grammar.{whole}
use Rattle.zone_texts.specs.ZoneText.{zone_text}
use Rattle.zone_texts.specs.Parsed.{placed, zone_parsed}
use Rattle.zone_texts.specs.Laws.{IsZoneText, IsPlace, ZonesAreParsed}
use Rattle.zone_texts.proofs.GrammarLaws.{found, again, Stops, stops}
use Rattle.zone_texts.proofs.Clear.{zone_clear}

placed_ok : (text : List ℕ) (read : Result Zone ℕ) (zone : Zone) → placed text read ≡ Ok zone → read ≡ Ok zone
placed_ok text (Ok x) zone e = cc
placed_ok text (Err left) zone e = absurd cc

at_place : (text : List ℕ) (fault : ZoneFault) (left : ℕ) → fault.place ≡ length text - left + 1 → Stops zone_text text left → IsPlace text fault.place
at_place text fault left is s = record {
  front = s.front;
  back = s.back;
  parts = s.parts;
  behind = omega (arith, is, ap length s.parts, length-append s.front s.back, s.left_is);
  begins = s.begins;
  longest = s.longest;
}

placed_err : (text : List ℕ) (read : Result Zone ℕ) (fault : ZoneFault) → placed text read ≡ Err fault → ((left : ℕ) → read ≡ Err left → Stops zone_text text left) → IsPlace text fault.place
placed_err text (Ok x) fault e stop = absurd cc
placed_err text (Err left) fault e stop =
    let same : record { place = length text - left + 1 } ≡ fault = cc in
    at_place text fault left (ap (λ (f : ZoneFault). f.place) (sym same)) (stop left refl)

zone_found : (text : List ℕ) (offset : ℤ) (zone : Zone) → text ≢ [] → zone_parsed text offset ≡ Ok zone → IsZoneText text zone
unfolding zone_parsed
zone_found [] offset zone full e = absurd (full refl)
zone_found (b ∷ text) offset zone full e = found zone_text (b ∷ text) zone (placed_ok (b ∷ text) (whole zone_text (b ∷ text)) zone e)

zone_again : (text : List ℕ) (offset : ℤ) (zone : Zone) → IsZoneText text zone → zone_parsed text offset ≡ Ok zone
unfolding zone_parsed
zone_again [] offset zone h = absurd h
zone_again (b ∷ text) offset zone h = ap (placed (b ∷ text)) (again zone_text zone_clear (b ∷ text) zone h)

zone_places : (text : List ℕ) (offset : ℤ) (fault : ZoneFault) → zone_parsed text offset ≡ Err fault → IsPlace text fault.place
unfolding zone_parsed
zone_places [] offset fault e = absurd cc
zone_places (b ∷ text) offset fault e = placed_err (b ∷ text) (whole zone_text (b ∷ text)) fault e (λ left d. stops zone_text zone_clear (b ∷ text) left d)

pub zones_are_parsed : ZonesAreParsed
zones_are_parsed = record { found = zone_found; again = zone_again; places = zone_places }
