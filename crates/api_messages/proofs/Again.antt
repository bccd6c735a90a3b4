-- What was written is read again.
use Rattle.std.proofs.Common.{◌≡◌, ℕ, ◌≤◌, ℤ, pos, negsuc, ◌≤ℤ◌, List, [], ◌∷◌, ◌++◌, length, Bool, true, false, cond, not, ◌&&◌, Option, Some, None, Result, Ok, Err, Ordering, Less, Equal, Greater, is_eq, refl, subst, ◌∙◌, append_assoc, append-nil, arith, true≢false}
use Rattle.std.specs.Prelude.{IfOk, is_some, option_and_then}
use Rattle.std.specs.Int.{int_max}
use Rattle.std.specs.Ordering.{nat_cmp, match_ordering}
use Rattle.std.specs.Cmp.Lexicographic.{slice_cmp}
use Rattle.std.specs.Str.{IsUtf8}
use Rattle.std.proofs.lemmas.Bool.{le-leb}
use Rattle.std.proofs.lemmas.Bool.Decides.{nat_tests}
use Rattle.std.proofs.lemmas.Cmp.{nat_list_cmp_total, tied_itself}
use Rattle.std.proofs.lemmas.Int.{ints}
use Rattle.serde_json.specs.Data.{Data, null, boolean, number, string, array, object, Members, member, depth, members_depth}
use Rattle.serde_json.specs.Find.{get_member, as_null, as_number, of_integer, as_integer, is_float}
use Rattle.serde_json.specs.Written.{has_float, members_have_float, compact_text}
use Rattle.job_values.specs.declared.no_memory.NoMemory.{NoMemory}
use Rattle.serde_json.specs.Read.{read, max_depth}
use Rattle.api_messages.specs.Members.{Cell, none, int, text, bool, value, Kind, whole, not_negative, text_within, any_text, cut_text, truth, any_value, Row}
use Rattle.job_values.specs.declared.limits.TheConstants.{LONGEST_BODY}
use Rattle.api_messages.specs.Reading.{◌>>=◌, within, whole_in, cut, read_as, cell_at, cells_from, object_at, message_at}
use Rattle.api_messages.specs.Writing.{data_of, written, object_of, most_depth, FitsKind, FitsRow, Fit}
use Rattle.api_messages.specs.declared.fault.MessageFault.{MessageFault}
use Rattle.api_messages.proofs.Rows.{next, done}
use Rattle.api_messages.proofs.Bodies.{value_at-json}

-- ---- names that differ

abbrev pub differ : List ℕ → List ℕ → Bool
differ a b = not (is_eq (slice_cmp nat_cmp a b)) && not (is_eq (slice_cmp nat_cmp b a))

abbrev pub apart : List ℕ → List Row → Bool
apart name [] = true
apart name (row ∷ rows) = differ name row.name && apart name rows

-- no two rows have one name
abbrev pub all_apart : List Row → Bool
all_apart [] = true
all_apart (row ∷ rows) = apart row.name rows && all_apart rows

both : (a b : Bool) → (a && b) ≡ true → (a ≡ true) × (b ≡ true)
both true true e = (refl, refl)
both true false e = absurd cc
both false b e = absurd cc

denied : (a : Bool) → not a ≡ true → a ≡ false
denied true e = absurd cc
denied false e = refl

passed : (o : Ordering) (a b : Option Data) → is_eq o ≡ false → match_ordering o a b a ≡ a
passed Less a b e = refl
passed Equal a b e = absurd (true≢false e)
passed Greater a b e = refl

-- a member of another name is passed over
skips : (q k : List ℕ) (d : Data) (ms : Members) → is_eq (slice_cmp nat_cmp q k) ≡ false → get_member q (member k d ms) ≡ get_member q ms
skips q k d ms e = passed (slice_cmp nat_cmp q k) _ _ e

finds : (k : List ℕ) (d : Data) (ms : Members) → get_member k (member k d ms) ≡ Some d
finds k d ms = rw (tied_itself nat_list_cmp_total k) refl

skips_null : (b : Bool) (q k : List ℕ) (d : Data) (ms : Members) → is_eq (slice_cmp nat_cmp q k) ≡ false → get_member q (cond b ms (member k d ms)) ≡ get_member q ms
skips_null true q k d ms e = refl
skips_null false q k d ms e = skips q k d ms e

-- a name that no row has is not written
missing : (name : List ℕ) (rows : List Row) (cells : List Cell) → apart name rows ≡ true → get_member name (written rows cells) ≡ None
missing name [] cells e = refl
missing name (row ∷ rows) [] e = refl
missing name (row ∷ rows) (c ∷ cs) e =
    let p = both (differ name row.name) (apart name rows) e in
    let q = both (not (is_eq (slice_cmp nat_cmp name row.name))) _ p.0 in
    skips_null (is_some (as_null (data_of c))) name row.name (data_of c) (written rows cs) (denied _ q.0) ∙ missing name rows cs p.1

-- ---- a member of another name changes nothing

kept_cell : (row : Row) (k : List ℕ) (d : Data) (ms : Members) → is_eq (slice_cmp nat_cmp row.name k) ≡ false → cell_at row (object (member k d ms)) ≡ cell_at row (object ms)
unfolding cell_at
kept_cell row k d ms e = rw (skips row.name k d ms e) refl

bind_same : {A B : Type 0} (r : Result A MessageFault) (f g : A → Result B MessageFault) → ((x : A) → f x ≡ g x) → (r >>= f) ≡ (r >>= g)
bind_same (Ok x) f g same = same x
bind_same (Err e) f g same = refl

kept : (before : List Cell) (rows : List Row) (k : List ℕ) (d : Data) (ms : Members) → apart k rows ≡ true → cells_from before rows (object (member k d ms)) ≡ cells_from before rows (object ms)
unfolding cells_from
kept before [] k d ms e = refl
kept before (row ∷ rows) k d ms e =
    let p = both (differ k row.name) (apart k rows) e in
    let q = both (not (is_eq (slice_cmp nat_cmp k row.name))) _ p.0 in
    rw (kept_cell row k d ms (denied _ q.1)) (bind_same (cell_at row (object ms)) _ _ (λ c. kept (before ++ c ∷ []) rows k d ms p.1))

-- ---- a value that fits its row is read again

number_again : (z : ℤ) → option_and_then as_integer (as_number (number (of_integer z))) ≡ Some z
number_again (pos n) = refl
number_again (negsuc n) = refl

within_again : (low high z : ℤ) → low ≤ℤ z → z ≤ℤ high → within low high z ≡ Some z
within_again low high z l h = grind (arith, ints, nat_tests)

whole_again : (low high z : ℤ) → low ≤ℤ z → z ≤ℤ high → whole_in low high (number (of_integer z)) ≡ Some z
whole_again low high z l h = rw (number_again z) (within_again low high z l h)

max_again : (z : ℤ) → pos 0 ≤ℤ z → int_max (pos 0) z ≡ z
max_again z h = grind (arith, ints, nat_tests)

cut_again : (most : ℕ) (s : List ℕ) → length s ≤ most → cut most s ≡ s
unfolding cut
cut_again most s h = rw (le-leb (length s) most h) refl

kind_again : (k : Kind) (c : Cell) → FitsKind k c → read_as k (data_of c) ≡ Some c
unfolding read_as
kind_again (whole low high) (int z) h = rw (whole_again low high z h.0 h.1) refl
kind_again (not_negative low high) (int z) h = rw (whole_again low high z h.0 h.2, max_again z h.1) refl
kind_again (text_within most) (text s) h = rw (le-leb (length s) most h) refl
kind_again any_text (text s) h = refl
kind_again (cut_text most) (text s) h = rw (cut_again most s h) refl
kind_again truth (bool b) h = refl
kind_again any_value (value d) h = refl
kind_again (whole low high) none h = absurd h
kind_again (whole low high) (text s) h = absurd h
kind_again (whole low high) (bool b) h = absurd h
kind_again (whole low high) (value d) h = absurd h
kind_again (not_negative low high) none h = absurd h
kind_again (not_negative low high) (text s) h = absurd h
kind_again (not_negative low high) (bool b) h = absurd h
kind_again (not_negative low high) (value d) h = absurd h
kind_again (text_within most) none h = absurd h
kind_again (text_within most) (int z) h = absurd h
kind_again (text_within most) (bool b) h = absurd h
kind_again (text_within most) (value d) h = absurd h
kind_again any_text none h = absurd h
kind_again any_text (int z) h = absurd h
kind_again any_text (bool b) h = absurd h
kind_again any_text (value d) h = absurd h
kind_again (cut_text most) none h = absurd h
kind_again (cut_text most) (int z) h = absurd h
kind_again (cut_text most) (bool b) h = absurd h
kind_again (cut_text most) (value d) h = absurd h
kind_again truth none h = absurd h
kind_again truth (int z) h = absurd h
kind_again truth (text s) h = absurd h
kind_again truth (value d) h = absurd h
kind_again any_value none h = absurd h
kind_again any_value (int z) h = absurd h
kind_again any_value (text s) h = absurd h
kind_again any_value (bool b) h = absurd h

null_again : (d : Data) → is_some (as_null d) ≡ true → d ≡ null
null_again null e = refl
null_again (boolean b) e = absurd cc
null_again (number n) e = absurd cc
null_again (string s) e = absurd cc
null_again (array ds) e = absurd cc
null_again (object ms) e = absurd cc

null_value : (k : Kind) (d : Data) → FitsKind k (value d) → d ≡ null → ⊥
null_value any_value d h e = h.0 e
null_value (whole low high) d h e = h
null_value (not_negative low high) d h e = h
null_value (text_within most) d h e = h
null_value any_text d h e = h
null_value (cut_text most) d h e = h
null_value truth d h e = h

-- a value that is null is that of a row that may be missing
null_is_none : (row : Row) (c : Cell) → FitsRow row c → is_some (as_null (data_of c)) ≡ true → row.missing ≡ Some c
null_is_none row none h e = h
null_is_none row (int z) h e = absurd cc
null_is_none row (text s) h e = absurd cc
null_is_none row (bool b) h e = absurd cc
null_is_none row (value d) h e = absurd (null_value row.kind d h (null_again d e))

kind_of : (row : Row) (c : Cell) → FitsRow row c → is_some (as_null (data_of c)) ≡ false → FitsKind row.kind c
kind_of row none h e = absurd cc
kind_of row (int z) h e = h
kind_of row (text s) h e = h
kind_of row (bool b) h e = h
kind_of row (value d) h e = h

-- a row that was not written has its default
absent : (row : Row) (c : Cell) (ms : Members) → get_member row.name ms ≡ None → row.missing ≡ Some c → cell_at row (object ms) ≡ Ok c
unfolding cell_at
absent row c ms gone is = rw (gone, is) refl

written_cell : (row : Row) (c : Cell) (ms : Members) → FitsKind row.kind c → is_some (as_null (data_of c)) ≡ false → cell_at row (object (member row.name (data_of c) ms)) ≡ Ok c
unfolding cell_at
written_cell row c ms h e = rw (finds row.name (data_of c) ms, e, kind_again row.kind c h) refl

step : (b : Bool) (before : List Cell) (row : Row) (rows : List Row) (c : Cell) (ms : Members) → is_some (as_null (data_of c)) ≡ b → FitsRow row c → apart row.name rows ≡ true → get_member row.name ms ≡ None
    → cells_from before (row ∷ rows) (object (cond b ms (member row.name (data_of c) ms))) ≡ cells_from (before ++ c ∷ []) rows (object ms)
step true before row rows c ms e h others gone = next _ before row rows (object ms) c (absent row c ms gone (null_is_none row c h e)) refl
step false before row rows c ms e h others gone =
    next _ before row rows _ c (written_cell row c ms (kind_of row c h e) e) (kept (before ++ c ∷ []) rows row.name (data_of c) ms others)

pub cells_again : (before : List Cell) (rows : List Row) (cells : List Cell) → all_apart rows ≡ true → Fit rows cells → cells_from before rows (object_of rows cells) ≡ Ok (before ++ cells)
cells_again before [] [] e h = rw append-nil (done before _)
cells_again before [] (c ∷ cs) e h = absurd h
cells_again before (row ∷ rows) [] e h = absurd h
cells_again before (row ∷ rows) (c ∷ cs) e h =
    let p = both (apart row.name rows) (all_apart rows) e in
    step _ before row rows c (written rows cs) refl h.0 p.0 (missing row.name rows cs p.0) ∙ cells_again (before ++ c ∷ []) rows cs p.1 h.1 ∙ rw append_assoc refl

-- ---- the whole text

kind_depth : (k : Kind) (c : Cell) → FitsKind k c → depth (data_of c) ≤ most_depth
kind_depth k none h = omega arith
kind_depth k (int z) h = omega arith
kind_depth k (text s) h = omega arith
kind_depth k (bool b) h = omega arith
kind_depth any_value (value d) h = h.1
kind_depth (whole low high) (value d) h = absurd h
kind_depth (not_negative low high) (value d) h = absurd h
kind_depth (text_within most) (value d) h = absurd h
kind_depth any_text (value d) h = absurd h
kind_depth (cut_text most) (value d) h = absurd h
kind_depth truth (value d) h = absurd h

row_depth : (row : Row) (c : Cell) → FitsRow row c → depth (data_of c) ≤ most_depth
row_depth row none h = omega arith
row_depth row (int z) h = kind_depth row.kind (int z) h
row_depth row (text s) h = kind_depth row.kind (text s) h
row_depth row (bool b) h = kind_depth row.kind (bool b) h
row_depth row (value d) h = kind_depth row.kind (value d) h

unless_depth : (b : Bool) (name : List ℕ) (d : Data) (ms : Members) → depth d ≤ most_depth → members_depth ms ≤ most_depth → members_depth (cond b ms (member name d ms)) ≤ most_depth
unless_depth true name d ms h k = k
unless_depth false name d ms h k = omega arith

written_depth : (rows : List Row) (cells : List Cell) → Fit rows cells → members_depth (written rows cells) ≤ most_depth
written_depth [] [] h = omega arith
written_depth [] (c ∷ cs) h = absurd h
written_depth (row ∷ rows) [] h = absurd h
written_depth (row ∷ rows) (c ∷ cs) h = unless_depth _ row.name (data_of c) (written rows cs) (row_depth row c h.0) (written_depth rows cs h.1)

pub object_depth : (rows : List Row) (cells : List Cell) → Fit rows cells → depth (object_of rows cells) ≤ max_depth
object_depth rows cells h = omega (arith, written_depth rows cells h)

pub message_again : (rows : List Row) (cells : List Cell) (b : List ℕ) → all_apart rows ≡ true → Fit rows cells → length b ≤ LONGEST_BODY → IsUtf8 b → read b ≡ Some (object_of rows cells) → message_at rows b ≡ Ok cells
unfolding message_at object_at
message_again rows cells b apart fits short utf8 reads = rw (value_at-json b _ short utf8 reads, cells_again [] rows cells apart fits) refl

-- the message of what was written, where its values fit
pub reads_again : (r : Result (List ℕ) NoMemory) (d : Data) (rows : List Row) (cells : List Cell) → d ≡ object_of rows cells → all_apart rows ≡ true → IfOk r IsUtf8
    → IfOk r (λ b. depth d ≤ max_depth → read b ≡ Some d) → IfOk r (λ b. length b ≤ LONGEST_BODY → Fit rows cells → message_at rows b ≡ Ok cells)
reads_again (Ok b) d rows cells is apart utf8 reads =
    λ short fits. message_again rows cells b apart fits short utf8 (subst (λ e. depth e ≤ max_depth → read b ≡ Some e) is reads (object_depth rows cells fits))
reads_again (Err e) d rows cells is apart utf8 reads = tt

-- the same, where the writer knows that they fit
pub fitting_again : (r : Result (List ℕ) NoMemory) (d : Data) (rows : List Row) (cells : List Cell) → d ≡ object_of rows cells → all_apart rows ≡ true → IfOk r IsUtf8
    → IfOk r (λ b. depth d ≤ max_depth → read b ≡ Some d) → Fit rows cells → IfOk r (λ b. length b ≤ LONGEST_BODY → message_at rows b ≡ Ok cells)
fitting_again (Ok b) d rows cells is apart utf8 reads fits = λ short. reads_again (Ok b) d rows cells is apart utf8 reads short fits
fitting_again (Err e) d rows cells is apart utf8 reads fits = tt

-- ---- values without floats

abbrev pub is_flat : List Cell → Bool
is_flat [] = true
is_flat (value d ∷ cs) = false
is_flat (none ∷ cs) = is_flat cs
is_flat (int z ∷ cs) = is_flat cs
is_flat (text s ∷ cs) = is_flat cs
is_flat (bool b ∷ cs) = is_flat cs

integer_is_no_float : (z : ℤ) → is_float (of_integer z) ≡ false
integer_is_no_float (pos n) = refl
integer_is_no_float (negsuc n) = refl

pub flat_members : (rows : List Row) (cells : List Cell) → is_flat cells ≡ true → members_have_float (written rows cells) ≡ false
flat_members [] cells e = refl
flat_members (row ∷ rows) [] e = refl
flat_members (row ∷ rows) (value d ∷ cs) e = absurd cc
flat_members (row ∷ rows) (none ∷ cs) e = flat_members rows cs e
flat_members (row ∷ rows) (int z ∷ cs) e = rw (integer_is_no_float z) (flat_members rows cs e)
flat_members (row ∷ rows) (text s ∷ cs) e = flat_members rows cs e
flat_members (row ∷ rows) (bool b ∷ cs) e = flat_members rows cs e

pub flat_text : (r : Result (List ℕ) NoMemory) (d : Data) (rows : List Row) (cells : List Cell) → d ≡ object_of rows cells → is_flat cells ≡ true
    → IfOk r (λ b. has_float d ≡ false → b ≡ compact_text d) → IfOk r (λ b. b ≡ compact_text (object_of rows cells))
flat_text (Ok b) d rows cells is flat texts = subst (λ e. has_float e ≡ false → b ≡ compact_text e) is texts (flat_members rows cells flat)
flat_text (Err e) d rows cells is flat texts = tt

pub text_as_is : (r : Result (List ℕ) NoMemory) (d : Data) (rows : List Row) (cells : List Cell) → d ≡ object_of rows cells
    → IfOk r (λ b. has_float d ≡ false → b ≡ compact_text d) → IfOk r (λ b. has_float (object_of rows cells) ≡ false → b ≡ compact_text (object_of rows cells))
text_as_is (Ok b) d rows cells is texts = subst (λ e. has_float e ≡ false → b ≡ compact_text e) is texts
text_as_is (Err e) d rows cells is texts = tt
