-- What holds of every text that is parsed.
use Rattle.std.specs.Prelude.{◌≡◌, ◌≤◌, Bool, true, ◌≢◌, ℕ, suc, ℤ, ◌⊎◌, ◌↔◌, List, [], ◌∷◌, ◌++◌, length, Ok, Err}
use Rattle.std.specs.List.{AllByRecursion}
use Rattle.zone_texts.specs.declared.zone.Zone.{Zone}
use Rattle.job_values.specs.declared.fault.ZoneFault.{ZoneFault}
use Rattle.zone_texts.specs.Grammar.{Grammar, Gives, One, Or, Says, and_then, or_else}
use Rattle.zone_texts.specs.ZoneText.{is_letter, is_quoted, name, zone_text}
use Rattle.zone_texts.specs.Parsed.{zone_parsed}

-- the text is a zone text, and this is its zone
abbrev pub IsZoneText : List ℕ → Zone → Type 0
IsZoneText text zone = Says zone_text zone text

-- the bytes begin some zone text
abbrev pub BeginsZoneText : List ℕ → Type 0
BeginsZoneText bytes = (zone : Zone) × (more : List ℕ) × IsZoneText (bytes ++ more) zone

-- the longest prefix of the text that begins some zone text ends right before this place
pub record IsPlace (text : List ℕ) (place : ℕ) : Type 0 where
  pub front : List ℕ
  pub back : List ℕ
  pub parts : text ≡ front ++ back
  pub behind : place ≡ suc (length front)
  pub begins : BeginsZoneText front
  pub longest : (b : ℕ) (more : List ℕ) → back ≡ b ∷ more → BeginsZoneText (front ++ b ∷ []) → ⊥

pub record ZonesAreParsed : Type 0 where
  -- what is parsed from a text that is not empty is what it says as a zone text
  pub found : (text : List ℕ) (offset : ℤ) (zone : Zone) → text ≢ [] → zone_parsed text offset ≡ Ok zone → IsZoneText text zone
  -- every zone text is parsed
  pub again : (text : List ℕ) (offset : ℤ) (zone : Zone) → IsZoneText text zone → zone_parsed text offset ≡ Ok zone
  -- a fault is at its place
  pub places : (text : List ℕ) (offset : ℤ) (fault : ZoneFault) → zone_parsed text offset ≡ Err fault → IsPlace text fault.place

-- ---- what grammars say that are put together

-- the text begins with one of the first, and the others of its bytes are a text of the second
abbrev pub Behind : {V W : Type 0} → (V → List ℕ → Type 0) → (V → W → List ℕ → Type 0) → W → List ℕ → Type 0
Behind {V} L M w text = (v : V) × (first : List ℕ) × (second : List ℕ) × L v first × M v w second × (text ≡ first ++ second)

-- one grammar behind another says what texts of both say, one behind the other
abbrev pub SequencesSay : Type 0 → Type 0 → Type 0
SequencesSay V W = (g : Grammar V) (k : V → Grammar W) (w : W) (text : List ℕ) → Says (and_then g k) w text ↔ Behind (Says g) (λ v. Says (k v)) w text

-- the empty text is not all that the grammar says
abbrev pub GoesOn : {V : Type 0} → Grammar V → Type 0
GoesOn (Gives x) = ⊥
GoesOn (One class next) = Unit {0}
GoesOn (Or class next other) = GoesOn other

-- one grammar or another says what either says
abbrev pub ChoicesSay : Type 0 → Type 0
ChoicesSay V = (g h : Grammar V) → GoesOn g → (v : V) (text : List ℕ) → Says (or_else g h) v text ↔ (Says g v text ⊎ Says h v text)

-- ---- names

-- three to eight bytes, each of the class
abbrev pub IsRun : (ℕ → Bool) → List ℕ → Type 0
IsRun class text = (3 ≤ length text) × (length text ≤ 8) × AllByRecursion (λ b. class b ≡ true) text

-- letters, or letters, digits and signs between `<` and `>`
abbrev pub IsName : List ℕ → Type 0
IsName text = IsRun is_letter text ⊎ ((inner : List ℕ) × IsRun is_quoted inner × (text ≡ 60 ∷ (inner ++ 62 ∷ [])))

-- the grammar of names says names, and nothing else
abbrev pub NamesSay : Type 0
NamesSay = (text : List ℕ) → Says name tt text ↔ IsName text
