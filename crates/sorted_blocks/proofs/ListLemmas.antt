-- Lemmas on lists joined end to end: what is true of each of their elements, and of each two of them.
use Rattle.std.proofs.Common.{◌≡◌, ℕ, zero, suc, ◌+◌, ◌-◌, ◌<◌, ◌≤◌, List, [], ◌∷◌, ◌++◌, Bool, true, false, cond, ◌&&◌, ◌||◌, Option, Some, None, length, get_or, take, drop, set, refl, sym, ap, ◌∙◌, subst, arith}
use Rattle.std.specs.declared.cmp.Ordering.{Ordering}
use Rattle.std.specs.declared.cmp.Ordering.TheVariants.{Less, Equal, Greater}
use Rattle.std.specs.List.{All, AllPairs, list_all, list_any, filter, find, insert, slice_get}
use Rattle.std.specs.Option.{option_or}
use Rattle.std.specs.Ordering.{match_ordering}
use Rattle.std.proofs.Math.Seq.{split_at}
use Rattle.std.proofs.lemmas.List.{append_assoc, drop_more, take_more_set, take-set, drop-set-lt, length-append, length-take-le, length-drop, take_rest}
use Rattle.std.proofs.lemmas.List.Concat.{flat_map-append}
use Rattle.std.proofs.lemmas.List.Folds.{list_any-append, list_any_none, find-append}
use Rattle.std.proofs.lemmas.List.Elements.{All-nil, All-cons, All-head, All-tail, All-append, All-take, All-drop, filter-append}
use Rattle.std.proofs.lemmas.List.Kept.{AllPairs-cons}
use Rattle.rising_rows.specs.Seats.{put_by}
use Rattle.sorted_blocks.specs.Blocks.{joined, replaced}

pub all-left : {X : Type 0} (P : X → Type 0) (xs ys : List X) → All P (xs ++ ys) → All P xs
all-left P [] ys all = All-nil P
all-left P (x ∷ xs) ys all = All-cons P x xs (All-head P x (xs ++ ys) all) (all-left P xs ys (All-tail P x (xs ++ ys) all))

pub all-right : {X : Type 0} (P : X → Type 0) (xs ys : List X) → All P (xs ++ ys) → All P ys
all-right P [] ys all = all
all-right P (x ∷ xs) ys all = all-right P xs ys (All-tail P x (xs ++ ys) all)

pub pairs-head : {X : Type 0} (R : X → X → Type 0) (x : X) (xs : List X) → AllPairs R (x ∷ xs) → All (R x) xs
pairs-head R x xs pairs k d lt = pairs 0 (suc k) d (omega arith) (omega arith)

pub pairs-tail : {X : Type 0} (R : X → X → Type 0) (x : X) (xs : List X) → AllPairs R (x ∷ xs) → AllPairs R xs
pairs-tail R x xs pairs i j d lt within = pairs (suc i) (suc j) d (omega arith) (omega arith)

pub pairs-left : {X : Type 0} (R : X → X → Type 0) (xs ys : List X) → AllPairs R (xs ++ ys) → AllPairs R xs
pairs-left R [] ys pairs = λ i j d lt within. absurd (omega arith)
pairs-left R (x ∷ xs) ys pairs =
    AllPairs-cons R x xs (all-left (R x) xs ys (pairs-head R x (xs ++ ys) pairs)) (pairs-left R xs ys (pairs-tail R x (xs ++ ys) pairs))

pub pairs-right : {X : Type 0} (R : X → X → Type 0) (xs ys : List X) → AllPairs R (xs ++ ys) → AllPairs R ys
pairs-right R [] ys pairs = pairs
pairs-right R (x ∷ xs) ys pairs = pairs-right R xs ys (pairs-tail R x (xs ++ ys) pairs)

-- each element of the first list is before each one of the second
pub pairs-across : {X : Type 0} (R : X → X → Type 0) (xs ys : List X) → AllPairs R (xs ++ ys) → All (λ x. All (R x) ys) xs
pairs-across R [] ys pairs = All-nil (λ x. All (R x) ys)
pairs-across R (x ∷ xs) ys pairs =
    All-cons (λ z. All (R z) ys) x xs (all-right (R x) xs ys (pairs-head R x (xs ++ ys) pairs)) (pairs-across R xs ys (pairs-tail R x (xs ++ ys) pairs))

-- what is true of all elements is true of those of one list
pub all-in : {X : Type 0} (P : X → Type 0) (blocks : List (List X)) (at : ℕ) (d : List X) → at < length blocks → All P (joined blocks) → All P (get_or blocks at d)
all-in P [] at d lt all = absurd (omega arith)
all-in P (block ∷ blocks) zero d lt all = all-left P block (joined blocks) all
all-in P (block ∷ blocks) (suc at) d lt all = all-in P blocks at d (omega arith) (all-right P block (joined blocks) all)

-- what is true of the elements of each list before a place is true of those of all of them
pub all-joined : {X : Type 0} (P : X → Type 0) (blocks : List (List X)) (at : ℕ) → ((k : ℕ) (d : List X) → k < at → k < length blocks → All P (get_or blocks k d)) → All P (joined (take at blocks))
all-joined P blocks zero each = All-nil P
all-joined P [] (suc at) each = All-nil P
all-joined P (block ∷ blocks) (suc at) each =
    All-append P block (joined (take at blocks)) (each 0 block (omega arith) (omega arith))
    (all-joined P blocks at (λ k d before within. each (suc k) d (omega arith) (omega arith)))

-- an element of an earlier list is before each one of a later list
pub pairs-apart : {X : Type 0} (R : X → X → Type 0) (blocks : List (List X)) (i j : ℕ) (d : List X) → AllPairs R (joined blocks) → i < j → j < length blocks → All (λ x. All (R x) (get_or blocks j d)) (get_or blocks i d)
pairs-apart R [] i j d pairs lt within = absurd (omega arith)
pairs-apart R (block ∷ blocks) i zero d pairs lt within = absurd (omega arith)
pairs-apart R (block ∷ blocks) zero (suc j) d pairs lt within =
    λ k e here. all-in (R (get_or block k e)) blocks j d (omega arith) (pairs-across R block (joined blocks) pairs k e here)
pairs-apart R (block ∷ blocks) (suc i) (suc j) d pairs lt within =
    pairs-apart R blocks i j d (pairs-right R block (joined blocks) pairs) (omega arith) (omega arith)

-- a test that not all elements pass fails at one of them
pub some-fails : {X : Type 0} (test : X → Bool) (xs : List X) → list_all test xs ≡ false → (k : ℕ) × (k < length xs) × ((d : X) → test (get_or xs k d) ≡ false)
some-fails {X = X} test [] fails = absurd (let never : true ≡ false = fails in cc)
some-fails {X = X} test (x ∷ xs) fails = by (test x) refl (λ rest. some-fails test xs rest) fails
  where
    by : (b : Bool) → test x ≡ b → (list_all test xs ≡ false → (k : ℕ) × (k < length xs) × ((d : X) → test (get_or xs k d) ≡ false)) → (b && list_all test xs) ≡ false → (k : ℕ) × (k < suc (length xs)) × ((d : X) → test (get_or (x ∷ xs) k d) ≡ false)
    by false is later rest = (0, omega arith, λ d. is)
    by true is later rest =
        let there = later rest in
        (suc there.0, (let lt : there.0 < length xs = there.1 in omega arith), λ d. there.2 d)

-- the lists around a place
pub joined-at : {X : Type 0} (blocks : List (List X)) (at : ℕ) → at < length blocks → joined blocks ≡ joined (take at blocks) ++ (get_or blocks at [] ++ joined (drop (suc at) blocks))
joined-at {X = X} blocks at within =
    ap joined (split_at blocks at [] within) ∙ flat_map-append (λ (block : List X). block) (take at blocks) (get_or blocks at [] ∷ drop (suc at) blocks)

-- the elements with others in place of one list
pub joined-replaced : {X : Type 0} (at : ℕ) (others blocks : List (List X)) → joined (replaced at others blocks) ≡ joined (take at blocks) ++ (joined others ++ joined (drop (suc at) blocks))
joined-replaced {X = X} at others blocks =
    flat_map-append (λ (block : List X). block) (take at blocks) (others ++ drop (suc at) blocks)
    ∙ ap (λ (xs : List X). joined (take at blocks) ++ xs) (flat_map-append (λ (block : List X). block) others (drop (suc at) blocks))

pub all-replaced : {X : Type 0} (P : X → Type 0) (at : ℕ) (others xs : List X) → All P xs → All P others → All P (replaced at others xs)
all-replaced P at others xs all here =
    All-append P (take at xs) (others ++ drop (suc at) xs) (All-take P at xs all)
    (All-append P others (drop (suc at) xs) here (All-drop P (suc at) xs all))

pub length-replaced : {X : Type 0} (at : ℕ) (others xs : List X) → at < length xs → length (replaced at others xs) + 1 ≡ length xs + length others
length-replaced at others xs within =
    let whole : length (replaced at others xs) ≡ length (take at xs) + length (others ++ drop (suc at) xs) = length-append (take at xs) (others ++ drop (suc at) xs) in
    let rest : length (others ++ drop (suc at) xs) ≡ length others + length (drop (suc at) xs) = length-append others (drop (suc at) xs) in
    let front : length (take at xs) ≡ at = length-take-le at xs (omega arith) in
    let back = length-drop (suc at) xs in
    omega arith

-- a row that belongs among some rows is put among them
put-among : {X : Type 0} (order : X → Ordering) (row : X) (rows after : List X) → All (λ other. order other ≡ Greater) after → put_by order row (rows ++ after) ≡ put_by order row rows ++ after
put-among order row [] [] greater = refl
put-among order row [] (first ∷ after) greater =
    ap (λ o. match_ordering o (first ∷ put_by order row after) (row ∷ after) (row ∷ first ∷ after)) (greater 0 first (omega arith))
put-among order row (first ∷ rows) after greater = by (order first) (put-among order row rows after greater)
  where
    by : (o : Ordering) → put_by order row (rows ++ after) ≡ put_by order row rows ++ after → match_ordering o (first ∷ put_by order row (rows ++ after)) (row ∷ (rows ++ after)) (row ∷ first ∷ (rows ++ after)) ≡ match_ordering o (first ∷ put_by order row rows) (row ∷ rows) (row ∷ first ∷ rows) ++ after
    by Less rest = ap (λ xs. first ∷ xs) rest
    by Equal rest = refl
    by Greater rest = refl

pub put-between_rows : {X : Type 0} (order : X → Ordering) (row : X) (before rows after : List X) → All (λ other. order other ≡ Less) before → All (λ other. order other ≡ Greater) after → put_by order row (before ++ (rows ++ after)) ≡ before ++ (put_by order row rows ++ after)
put-between_rows order row [] rows after less greater = put-among order row rows after greater
put-between_rows order row (first ∷ before) rows after less greater =
    ap (λ o. match_ordering o (first ∷ put_by order row (before ++ (rows ++ after))) (row ∷ (before ++ (rows ++ after))) (row ∷ first ∷ (before ++ (rows ++ after)))) (less 0 first (omega arith))
    ∙ ap (λ xs. first ∷ xs) (put-between_rows order row before rows after (All-tail (λ other. order other ≡ Less) first before less) greater)

filter-all : {X : Type 0} (test : X → Bool) (xs : List X) → All (λ x. test x ≡ true) xs → filter test xs ≡ xs
filter-all test [] all = refl
filter-all test (x ∷ xs) all =
    ap (λ b. cond b (x ∷ filter test xs) (filter test xs)) (all 0 x (omega arith))
    ∙ ap (λ ys. x ∷ ys) (filter-all test xs (All-tail (λ y. test y ≡ true) x xs all))

-- a filter that keeps all before and after some rows
pub filter-between : {X : Type 0} (test : X → Bool) (before rows after : List X) → All (λ x. test x ≡ true) before → All (λ x. test x ≡ true) after → filter test (before ++ (rows ++ after)) ≡ before ++ (filter test rows ++ after)
filter-between {X = X} test before rows after first last =
    filter-append test before (rows ++ after)
    ∙ ap (λ (xs : List X). xs ++ filter test (rows ++ after)) (filter-all test before first)
    ∙ ap (λ (xs : List X). before ++ xs) (filter-append test rows after ∙ ap (λ (xs : List X). filter test rows ++ xs) (filter-all test after last))

or-false : (b : Bool) → (b || false) ≡ b
or-false true = refl
or-false false = refl

-- a test that none passes before and after some rows
pub any-between : {X : Type 0} (test : X → Bool) (before rows after : List X) → All (λ x. test x ≡ false) before → All (λ x. test x ≡ false) after → list_any test (before ++ (rows ++ after)) ≡ list_any test rows
any-between test before rows after first last =
    list_any-append test before (rows ++ after)
    ∙ ap (λ b. b || list_any test (rows ++ after)) (list_any_none test before first)
    ∙ list_any-append test rows after
    ∙ ap (λ b. list_any test rows || b) (list_any_none test after last)
    ∙ or-false (list_any test rows)

find-none : {X : Type 0} (test : X → Bool) (xs : List X) → All (λ x. test x ≡ false) xs → find test xs ≡ None
find-none test [] all = refl
find-none test (x ∷ xs) all =
    ap (λ b. cond b (Some x) (find test xs)) (all 0 x (omega arith)) ∙ find-none test xs (All-tail (λ y. test y ≡ false) x xs all)

find-first : {X : Type 0} (test : X → Bool) (xs : List X) → All (λ x. test x ≡ true) xs → find test xs ≡ slice_get xs 0
find-first test [] all = refl
find-first test (x ∷ xs) all = ap (λ b. cond b (Some x) (find test xs)) (all 0 x (omega arith))

-- the first that passes where none does before some rows, and all do after them
pub find-between : {X : Type 0} (test : X → Bool) (before rows after : List X) → All (λ x. test x ≡ false) before → All (λ x. test x ≡ true) after → find test (before ++ (rows ++ after)) ≡ option_or (find test rows) (slice_get after 0)
find-between {X = X} test before rows after first last =
    find-append test before (rows ++ after)
    ∙ ap (λ (o : Option X). option_or o (find test (rows ++ after))) (find-none test before first)
    ∙ find-append test rows after
    ∙ ap (λ (o : Option X). option_or (find test rows) o) (find-first test after last)

-- what is appended of a list from a place on
pub appended-rest : {X : Type 0} (new front whole : List X) (from : ℕ) (ok : Bool) → new ≡ cond ok (front ++ take (length whole - from) (drop from whole)) front → ok ≡ true → front ≡ [] → new ≡ drop from whole
appended-rest {X = X} new front whole from ok is done none =
    is
    ∙ ap (λ (b : Bool). cond b (front ++ take (length whole - from) (drop from whole)) front) done
    ∙ ap (λ (xs : List X). xs ++ take (length whole - from) (drop from whole)) none
    ∙ take_rest whole from

-- the element at a place of two lists, one behind the other
pub get-left : {X : Type 0} (xs ys : List X) (place : ℕ) → place < length xs → slice_get (xs ++ ys) place ≡ slice_get xs place
get-left [] ys place lt = absurd (omega arith)
get-left (x ∷ xs) ys zero lt = refl
get-left (x ∷ xs) ys (suc place) lt = get-left xs ys place (omega arith)

pub get-right : {X : Type 0} (xs ys : List X) (place : ℕ) → length xs ≤ place → slice_get (xs ++ ys) place ≡ slice_get ys (place - length xs)
get-right [] ys place le = ap (λ (n : ℕ). slice_get ys n) (omega arith)
get-right (x ∷ xs) ys zero le = absurd (omega arith)
get-right (x ∷ xs) ys (suc place) le =
    let same : place - length xs ≡ suc place - suc (length xs) = omega arith in
    get-right xs ys place (omega arith) ∙ ap (λ (n : ℕ). slice_get ys n) same

-- the lists from a place on are the one there and those behind it
pub joined-from : {X : Type 0} (blocks : List (List X)) (at : ℕ) (block : List X) → at < length blocks → block ≡ get_or blocks at block → joined (drop at blocks) ≡ block ++ joined (drop (at + 1) blocks)
joined-from {X = X} blocks at block within is =
    ap joined (drop_more blocks at block within) ∙ ap (λ (b : List X). b ++ joined (drop (at + 1) blocks)) (sym is)
