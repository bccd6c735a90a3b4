-- An item of a callback, of either form: its code and its text, and then which log it is of.
use Rattle.std.proofs.Common.{◌≡◌, ℕ, ◌≤◌, List, [], ◌∷◌, ◌++◌, length, codes, true, false, None, Some, Result, Ok, Err, refl, subst, ◌∙◌, inl, inr}
use Rattle.std.specs.Prelude.{IfOk}
use Rattle.std.specs.Str.{IsUtf8}
use Rattle.serde_json.specs.Data.{Data, number, depth}
use Rattle.serde_json.specs.Find.{of_integer}
use Rattle.serde_json.specs.Read.{read, max_depth}
use Rattle.job_values.specs.declared.limits.TheConstants.{LONGEST_BODY}
use Rattle.job_values.specs.declared.no_memory.NoMemory.{NoMemory}
use Rattle.api_messages.specs.Members.{Cell, none, int, text, bool, value, Row}
use Rattle.api_messages.specs.Tables.{told_rows, place_rows, item_rows, result_rows}
use Rattle.api_messages.specs.Reading.{◌>>=◌, Fails, is_object, present, cell_at, cells_from, cells_at, result_in, older_result, told_in, item_in, object_at, one_item_at}
use Rattle.api_messages.specs.Writing.{Fit, object_of}
use Rattle.api_messages.specs.declared.fault.MessageFault.{MessageFault}
use Rattle.api_messages.specs.declared.fault.MessageFault.TheVariants as faults
use Rattle.api_messages.proofs.Again.{cells_again, object_depth}
use Rattle.api_messages.proofs.Bodies.{value_at-json}

-- ---- an executeResult

pub no_result : (d : Data) → is_object d ≡ false → result_in d ≡ Err (faults.Member (codes "executeResult"))
unfolding result_in
no_result d e = rw e refl

pub whole : (d : Data) (told : List Cell) → is_object d ≡ true → cells_at result_rows d ≡ Ok told → result_in d ≡ Ok told
unfolding result_in
whole d told is reads = rw (is, reads) refl

pub faulty_result : (d : Data) (e : MessageFault) → is_object d ≡ true → cells_at result_rows d ≡ Err e → result_in d ≡ Err (faults.Member (codes "executeResult"))
unfolding result_in
faulty_result d e is reads = rw (is, reads) refl

-- ---- an item

pub told_first : (d : Data) → None ≡ older_result d → told_in d ≡ cells_at told_rows d
unfolding told_in
told_first d lacks = rw (← lacks) refl

pub told_older : (d result : Data) → Some result ≡ older_result d → told_in d ≡ result_in result
unfolding told_in
told_older d result has = rw (← has) refl

pub first_form : (d code : Data) → present (codes "handleCode") d ≡ Some code → told_in d ≡ cells_at told_rows d
first_form d code there = told_first d (rw there refl)

pub no_form : (d : Data) → present (codes "handleCode") d ≡ None → present (codes "executeResult") d ≡ None → told_in d ≡ cells_at told_rows d
no_form d gone lacks = told_first d (rw (gone, lacks) refl)

pub older_form : (d result : Data) → present (codes "handleCode") d ≡ None → present (codes "executeResult") d ≡ Some result → told_in d ≡ result_in result
older_form d result gone there = told_older d result (rw (gone, there) refl)

pub told_then : (d : Data) (told : List Cell) → told_in d ≡ Ok told → item_in d ≡ cells_from told place_rows d
unfolding item_in
told_then d told is = rw is refl

pub told_fails : (e : MessageFault) (d : Data) → Fails e (told_in d) → Fails e (item_in d)
unfolding item_in
told_fails e d (inl memory) = inl memory
told_fails e d (inr is) = rw is (inr refl)

bind_twice : {A B C : Type 0} (r : Result A MessageFault) (f : A → Result B MessageFault) (g : B → Result C MessageFault) (h : A → Result C MessageFault)
    → ((x : A) → h x ≡ (f x >>= g)) → (r >>= h) ≡ ((r >>= f) >>= g)
bind_twice (Ok x) f g h same = same x
bind_twice (Err e) f g h same = refl

-- rows after others are read as those after these
cells_split : (before : List Cell) (first rest : List Row) (d : Data) → cells_from before (first ++ rest) d ≡ (cells_from before first d >>= (λ cs. cells_from cs rest d))
unfolding cells_from
cells_split before [] rest d = refl
cells_split before (row ∷ first) rest d = bind_twice (cell_at row d) _ _ _ (λ c. cells_split (before ++ c ∷ []) first rest d)

-- an item with a code is read by the rows of the first form
pub by_rows : (d code : Data) → present (codes "handleCode") d ≡ Some code → item_in d ≡ cells_at item_rows d
unfolding item_in
by_rows d code there = rw (first_form d code there, cells_split [] told_rows place_rows d) refl

-- ---- what was written is read again

code_again : (cells : List Cell) → Fit item_rows cells → (code : Data) × (present (codes "handleCode") (object_of item_rows cells) ≡ Some code)
code_again [] h = absurd h
code_again (none ∷ cs) h = let e = h.0 in absurd cc
code_again (int z ∷ cs) h = (number (of_integer z), refl)
code_again (text s ∷ cs) h = absurd h.0
code_again (bool b ∷ cs) h = absurd h.0
code_again (value d ∷ cs) h = absurd h.0

pub item_again : (cells : List Cell) → Fit item_rows cells → item_in (object_of item_rows cells) ≡ Ok cells
item_again cells h = let p = code_again cells h in by_rows (object_of item_rows cells) p.0 p.1 ∙ cells_again [] item_rows cells refl h

pub one_item_again : (r : Result (List ℕ) NoMemory) (d : Data) (cells : List Cell) → d ≡ object_of item_rows cells → IfOk r IsUtf8
    → IfOk r (λ b. depth d ≤ max_depth → read b ≡ Some d) → Fit item_rows cells → IfOk r (λ b. length b ≤ LONGEST_BODY → one_item_at b ≡ Ok cells)
unfolding one_item_at object_at
one_item_again (Ok b) d cells is utf8 reads fits =
    let again = subst (λ e. depth e ≤ max_depth → read b ≡ Some e) is reads (object_depth item_rows cells fits) in
    λ short. rw (value_at-json b _ short utf8 again, item_again cells fits) refl
one_item_again (Err e) d cells is utf8 reads fits = tt
