-- Values of fields, as spans of the bytes tell them.
use Rattle.std.specs.Prelude.{ℕ, ◌≡◌, Option, List, [], ◌∷◌, length}
use Rattle.httparse.specs.declared.spans.Span.{Span}
use Rattle.httparse.specs.Spans.{IsWithin, span_bytes}
use Rattle.http_reading.specs.declared.fields.Found.{Found}
use Rattle.http_reading.specs.declared.fields.Found.TheVariants.{None, One, More}
use Rattle.std.specs.Prelude.{Some, None as Nothing}
use Rattle.http_reading.specs.Plans.{first_of}

-- the values are none, this one, or this one and others
abbrev pub IsFound : List ℕ → Found → List (List ℕ) → Type 0
IsFound bytes None values = values ≡ []
IsFound bytes (One value) values = IsWithin (length bytes) value × (values ≡ span_bytes bytes value ∷ [])
IsFound bytes (More value) values =
    IsWithin (length bytes) value × ((other : List ℕ) × (others : List (List ℕ)) × (values ≡ span_bytes bytes value ∷ other ∷ others))

-- the span, if there is one, covers the first of the values
abbrev pub IsFirst : List ℕ → List (List ℕ) → Option Span → Type 0
IsFirst bytes values Nothing = first_of values ≡ Nothing
IsFirst bytes values (Some value) = IsWithin (length bytes) value × (first_of values ≡ Some (span_bytes bytes value))
