-- The fields of a head: their names and values, and how a body is read by them.
use Rattle.std.specs.Prelude.{ℕ, Bool, true, false, ◌&&◌, ◌||◌, ◌==◌, nat_lt, nat_le, if◌then◌else◌, List, [], ◌∷◌, length, map, codes, Option, Some, None}
use Rattle.std.specs.List.{list_any, list_all}
use Rattle.std.specs.Char.{is_ascii_digit}
use Rattle.std.specs.Str.{str_eq_ignore_ascii_case}
use Rattle.std.specs.Str.Parse.{digits_value}
use Rattle.httparse.specs.Grammar.{Field}
use Rattle.httparse.specs.Spans.{name_and_value}
use Rattle.job_values.specs.declared.limits.TheConstants.{LONGEST_BODY}
use Rattle.http_reading.specs.declared.plan.BodyPlan.{BodyPlan}
use Rattle.http_reading.specs.declared.plan.BodyPlan.TheVariants.{Empty, Sized, Chunked, ToEnd, Bad, TooLarge}

-- the names of the fields with their values, which have no white space around them
abbrev pub fields_of : List Field → List (List ℕ × List ℕ)
fields_of fields = map name_and_value fields

-- the values of the fields with this name, in order; names compare without regard to ASCII case
abbrev pub values_of : List ℕ → List (List ℕ × List ℕ) → List (List ℕ)
values_of name [] = []
values_of name (f ∷ fields) =
    if str_eq_ignore_ascii_case f.0 name then f.1 ∷ values_of name fields else values_of name fields

-- the value of one field, where it has the name
abbrev pub value_if : List ℕ → List ℕ × List ℕ → List (List ℕ)
value_if name f = if str_eq_ignore_ascii_case f.0 name then f.1 ∷ [] else []

-- the first, if there is one
abbrev pub first_of : List (List ℕ) → Option (List ℕ)
first_of [] = None
first_of (value ∷ values) = Some value

-- decimal digits, one or more
abbrev pub is_number : List ℕ → Bool
is_number value = nat_lt 0 (length value) && list_all is_ascii_digit value

-- the body of a head with this one length
abbrev pub sized : List ℕ → BodyPlan
sized value =
    if is_number value
    then (if nat_le (digits_value 10 value) LONGEST_BODY then Sized (digits_value 10 value) else TooLarge)
    else Bad

-- the body by the lengths and the codings that a head gives
abbrev pub plan_by : List (List ℕ) → List (List ℕ) → BodyPlan
plan_by [] [] = Empty
plan_by (value ∷ []) [] = sized value
plan_by [] (coding ∷ []) = if str_eq_ignore_ascii_case coding (codes "chunked") then Chunked else Bad
plan_by _ _ = Bad

-- how the body of a request with these fields is read
abbrev pub plan_of : List (List ℕ × List ℕ) → BodyPlan
plan_of fields = plan_by (values_of (codes "content-length") fields) (values_of (codes "transfer-encoding") fields)

-- a body of which nothing is said goes to the end of the link
abbrev pub to_end : BodyPlan → BodyPlan
to_end Empty = ToEnd
to_end (Sized n) = Sized n
to_end Chunked = Chunked
to_end ToEnd = ToEnd
to_end Bad = Bad
to_end TooLarge = TooLarge

-- the body goes to the end of the link
abbrev pub is_to_end : BodyPlan → Bool
is_to_end Empty = false
is_to_end (Sized n) = false
is_to_end Chunked = false
is_to_end ToEnd = true
is_to_end Bad = false
is_to_end TooLarge = false

-- the token that a head gives: the first, if there are several
abbrev pub token_of : List (List ℕ × List ℕ) → Option (List ℕ)
token_of fields = first_of (values_of (codes "xxl-job-access-token") fields)

-- the value is `close`, without regard to ASCII case
abbrev pub is_close : List ℕ → Bool
is_close value = str_eq_ignore_ascii_case value (codes "close")

-- a field says that the link is to be closed
abbrev pub has_close : List (List ℕ × List ℕ) → Bool
has_close fields = list_any is_close (values_of (codes "connection") fields)

-- a request of this minor version of HTTP/1 with these fields is the last on its link
abbrev pub closes : ℕ → List (List ℕ × List ℕ) → Bool
closes minor fields = minor == 0 || has_close fields
