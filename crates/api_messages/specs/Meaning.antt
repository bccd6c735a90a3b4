-- Which message a JSON text means, member by member, and which fault it has where it means none.
use Rattle.std.specs.Prelude.{◌≡◌, ◌≢◌, ◌⊎◌, ℕ, ◌≤◌, ◌<◌, ℤ, pos, ◌≤ℤ◌, List, [], ◌∷◌, ◌++◌, codes, length, Bool, Some, None}
use Rattle.std.specs.Str.{IsUtf8}
use Rattle.std.specs.Int.{int_max}
use Rattle.serde_json.specs.Data.{Num, Data, null, boolean, number, string, array, object, Members}
use Rattle.serde_json.specs.Find.{get, as_integer}
use Rattle.serde_json.specs.Read.{read}
use Rattle.serde_json.specs.View.{items_of}
use Rattle.job_values.specs.declared.limits.TheConstants.{LONGEST_BODY, BATCH_ITEMS}
use Rattle.api_messages.specs.Members.{Cell, int, text, bool, value, Kind, whole, not_negative, text_within, any_text, cut_text, truth, any_value, Row}
use Rattle.api_messages.specs.Tables.{told_rows, place_rows, result_rows}
use Rattle.api_messages.specs.declared.fault.MessageFault.{MessageFault}
use Rattle.api_messages.specs.declared.fault.MessageFault.TheVariants as faults

-- the JSON value is this whole number
abbrev pub IsWhole : Data → ℤ → Type 0
IsWhole d z = (n : Num) × (d ≡ number n) × (as_integer n ≡ Some z)

-- t is s cut to so many bytes: s where it fits, else its longest front of whole characters that fits
pub record IsCut (most : ℕ) (s t : List ℕ) : Type 0 where
  pub front : (rest : List ℕ) × (s ≡ t ++ rest)
  pub fits : length t ≤ most
  pub kept : length s ≤ most → t ≡ s
  pub characters : most < length s → IsUtf8 t
  pub longest : (u rest : List ℕ) → most < length s → s ≡ u ++ rest → IsUtf8 u → length u ≤ most → length u ≤ length t

-- what a JSON value stands for in a member of a kind
abbrev pub StandsFor : Kind → Data → Cell → Type 0
StandsFor (whole low high) d c = (z : ℤ) × IsWhole d z × (low ≤ℤ z) × (z ≤ℤ high) × (c ≡ int z)
StandsFor (not_negative low high) d c = (z : ℤ) × IsWhole d z × (low ≤ℤ z) × (z ≤ℤ high) × (c ≡ int (int_max (pos 0) z))
StandsFor (text_within most) d c = (s : List ℕ) × (d ≡ string s) × (length s ≤ most) × (c ≡ text s)
StandsFor any_text d c = (s : List ℕ) × (d ≡ string s) × (c ≡ text s)
StandsFor (cut_text most) d c = (s t : List ℕ) × (d ≡ string s) × IsCut most s t × (c ≡ text t)
StandsFor truth d c = (b : Bool) × (d ≡ boolean b) × (c ≡ bool b)
StandsFor any_value d c = c ≡ value d

-- the object has no such member, or a null
abbrev pub IsMissing : List ℕ → Data → Type 0
IsMissing name d = (get name d ≡ None) ⊎ (get name d ≡ Some null)

-- the object gives the row this value: its default where the member is missing, else what the member stands for
abbrev pub Has : Row → Data → Cell → Type 0
Has row d c = (IsMissing row.name d × (row.missing ≡ Some c)) ⊎ ((v : Data) × (get row.name d ≡ Some v) × (v ≢ null) × StandsFor row.kind v c)

-- the object gives each row its value
abbrev pub Means : List Row → Data → List Cell → Type 0
Means [] d [] = Unit {0}
Means (row ∷ rows) d (c ∷ cs) = Has row d c × Means rows d cs
Means _ d _ = ⊥

-- the first row to which the object gives no value has this name
abbrev pub IsFirstFaulty : List Row → Data → List ℕ → Type 0
IsFirstFaulty rows d name =
    (before after : List Row) × (row : Row) × (cells : List Cell) × (rows ≡ before ++ row ∷ after) × Means before d cells × ((c : Cell) → ¬ (Has row d c)) × (name ≡ row.name)

-- the bytes are a body of this JSON value
pub record IsBody (bytes : List ℕ) (d : Data) : Type 0 where
  pub fits : length bytes ≤ LONGEST_BODY
  pub utf8 : IsUtf8 bytes
  pub json : read bytes ≡ Some d

-- the bytes are no JSON
abbrev pub IsNoJson : List ℕ → Type 0
IsNoJson bytes = IsUtf8 bytes → read bytes ≡ None

abbrev pub IsObject : Data → Type 0
IsObject d = (ms : Members) × (d ≡ object ms)

-- the body is an object that means these values
abbrev pub IsBodyOf : {A : Type 0} → (Data → A → Type 0) → List ℕ → A → Type 0
IsBodyOf means bytes given = (d : Data) × IsBody bytes d × IsObject d × means d given

-- the first fault of a body that is none, where the first faulty member of an object is told
abbrev pub HasBodyFault : (Data → List ℕ → Type 0) → List ℕ → MessageFault → Type 0
HasBodyFault faulty bytes faults.TooLong = LONGEST_BODY < length bytes
HasBodyFault faulty bytes faults.NotJson = (length bytes ≤ LONGEST_BODY) × IsNoJson bytes
HasBodyFault faulty bytes faults.WrongShape = (d : Data) × IsBody bytes d × ¬ (IsObject d)
HasBodyFault faulty bytes (faults.Member which) = (d : Data) × IsBody bytes d × IsObject d × faulty d which
HasBodyFault faulty bytes faults.NoMemory = ⊥

-- the body gives each row of the table this value
abbrev pub IsMessage : List Row → List ℕ → List Cell → Type 0
IsMessage rows bytes cells = IsBodyOf (Means rows) bytes cells

-- the first fault of a body that is no message
abbrev pub HasFault : List Row → List ℕ → MessageFault → Type 0
HasFault rows bytes e = HasBodyFault (IsFirstFaulty rows) bytes e

-- ---- an item of a callback

-- an item is of the older form: it has no handleCode, and has this executeResult
pub record IsOlder (d result : Data) : Type 0 where
  pub no_code : IsMissing (codes "handleCode") d
  pub is : get (codes "executeResult") d ≡ Some result
  pub some : result ≢ null

-- an executeResult gives this code and this text
abbrev pub MeansResult : Data → List Cell → Type 0
MeansResult result told = IsObject result × Means result_rows result told

-- an item gives this code and this text
abbrev pub Tells : Data → List Cell → Type 0
Tells d told = Means told_rows d told ⊎ ((result : Data) × IsOlder d result × MeansResult result told)

-- an item gives these values: its code and its text, and then which log it is of
abbrev pub MeansItem : Data → List Cell → Type 0
MeansItem d cells = (told place : List Cell) × Tells d told × Means place_rows d place × (cells ≡ told ++ place)

-- an item gives no code and text, at this member: its executeResult, where it is of the older form
abbrev pub IsToldFault : Data → List ℕ → Type 0
IsToldFault d name =
    (((result : Data) → ¬ (IsOlder d result)) × IsFirstFaulty told_rows d name)
    ⊎ ((result : Data) × IsOlder d result × ((told : List Cell) → ¬ (MeansResult result told)) × (name ≡ codes "executeResult"))

-- the first faulty member of an item
abbrev pub IsItemFault : Data → List ℕ → Type 0
IsItemFault d name = IsToldFault d name ⊎ (((told : List Cell) × Tells d told) × IsFirstFaulty place_rows d name)

-- ---- callbacks

-- the JSON value is the array of these
abbrev pub IsArray : Data → List Data → Type 0
IsArray d ds = d ≡ array (items_of ds)

abbrev pub AreObjects : List Data → Type 0
AreObjects [] = Unit {0}
AreObjects (d ∷ ds) = IsObject d × AreObjects ds

-- each item gives these values
abbrev pub MeansAll : List Data → List (List Cell) → Type 0
MeansAll [] [] = Unit {0}
MeansAll (d ∷ ds) (cells ∷ items) = MeansItem d cells × MeansAll ds items
MeansAll _ _ = ⊥

-- the first item with a fault has it at this member
abbrev pub IsFirstFaultyItem : List Data → List ℕ → Type 0
IsFirstFaultyItem ds name =
    (before after : List Data) × (d : Data) × (items : List (List Cell)) × (ds ≡ before ++ d ∷ after) × MeansAll before items × IsItemFault d name

abbrev pub IsCallback : List ℕ → List (List Cell) → Type 0
IsCallback bytes items =
    (d : Data) × (ds : List Data) × IsBody bytes d × IsArray d ds × AreObjects ds × (length ds ≤ BATCH_ITEMS) × MeansAll ds items

-- the first fault of a body that is no callback
abbrev pub HasCallbackFault : List ℕ → MessageFault → Type 0
HasCallbackFault bytes faults.TooLong =
    (LONGEST_BODY < length bytes) ⊎ ((d : Data) × (ds : List Data) × IsBody bytes d × IsArray d ds × AreObjects ds × (BATCH_ITEMS < length ds))
HasCallbackFault bytes faults.NotJson = (length bytes ≤ LONGEST_BODY) × IsNoJson bytes
HasCallbackFault bytes faults.WrongShape = (d : Data) × IsBody bytes d × ¬ ((ds : List Data) × IsArray d ds × AreObjects ds)
HasCallbackFault bytes (faults.Member which) =
    (d : Data) × (ds : List Data) × IsBody bytes d × IsArray d ds × AreObjects ds × (length ds ≤ BATCH_ITEMS) × IsFirstFaultyItem ds which
HasCallbackFault bytes faults.NoMemory = ⊥
