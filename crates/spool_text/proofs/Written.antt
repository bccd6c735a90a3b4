-- What was written is read again.
use Rattle.std.proofs.Common.{◌≡◌, ℕ, ◌+◌, ◌≤◌, ◌==◌, Bool, true, false, List, [], ◌∷◌, ◌++◌, length, Some, Ok, refl, sym, ap, ◌∙◌, arith, append_assoc, append-nil}
use Rattle.std.proofs.lemmas.Bool.Decides.{nat_tests}
use Rattle.job_values.specs.declared.run.CallbackItem.{CallbackItem}
use Rattle.callback_spool.specs.Different.{names, HaveDifferentLogs}
use Rattle.job_values.specs.declared.limits.TheConstants.{LONGEST_BODY}
use Rattle.api_messages.specs.Tables.{item_rows}
use Rattle.api_messages.specs.Seen.{item_cells}
use Rattle.api_messages.specs.Reading.{one_item_at}
use Rattle.api_messages.specs.Writing.{Fit}
use Rattle.spool_text.specs.Spool.{whole_from, last_from, item_at, items_from, spool_at, spool_text, item_line}
use Rattle.spool_text.proofs.Plain.{HasNoEnd, line_plain}
use Rattle.spool_text.proofs.Lines.{names-push}

-- an item whose line is read as it
abbrev pub IsReadAgain : CallbackItem → Type 0
IsReadAgain item = (item_at (item_line item) ≡ Some item) × HasNoEnd (item_line item)

abbrev pub AreReadAgain : List CallbackItem → Type 0
AreReadAgain [] = Unit {0}
AreReadAgain (item ∷ items) = IsReadAgain item × AreReadAgain items

pub read_again : (item : CallbackItem) → Fit item_rows (item_cells item) → (length (item_line item) ≤ LONGEST_BODY → one_item_at (item_line item) ≡ Ok (item_cells item)) → IsReadAgain item
read_again item fits reads =
    let plain = line_plain item fits in
    (rw (reads (omega (arith, plain.short))) refl, plain.calm)

pub again-push : (items : List CallbackItem) (item : CallbackItem) → AreReadAgain items → IsReadAgain item → AreReadAgain (items ++ item ∷ [])
again-push [] item h k = (k, tt)
again-push (x ∷ items) item h k = (h.0, again-push items item h.1 k)

pub text-push : (items : List CallbackItem) (item : CallbackItem) → spool_text (items ++ item ∷ []) ≡ (spool_text items ++ item_line item) ++ 10 ∷ []
text-push [] item = refl
text-push (x ∷ items) item =
    ap (λ t. item_line x ++ 10 ∷ t) (text-push items item)
    ∙ (sym (append_assoc (item_line x) (10 ∷ (spool_text items ++ item_line item)) (10 ∷ [])) ∙ ap (λ t. t ++ 10 ∷ []) (sym (append_assoc (item_line x) (10 ∷ spool_text items) (item_line item))))

whole_past : (line bs rest : List ℕ) → HasNoEnd bs → whole_from line (bs ++ 10 ∷ rest) ≡ (line ++ bs) ∷ whole_from [] rest
whole_past line [] rest h = rw (append-nil line) refl
whole_past line (b ∷ bs) rest h = rw h.0 (whole_past (line ++ b ∷ []) bs rest h.1 ∙ ap (λ l. l ∷ whole_from [] rest) (append_assoc line (b ∷ []) bs))

last_past : (line bs rest : List ℕ) → HasNoEnd bs → last_from line (bs ++ 10 ∷ rest) ≡ last_from [] rest
last_past line [] rest h = refl
last_past line (b ∷ bs) rest h = rw h.0 (last_past (line ++ b ∷ []) bs rest h.1)

-- none of these items is of a log of those before
abbrev pub AreNew : List CallbackItem → List CallbackItem → Type 0
AreNew before [] = Unit {0}
AreNew before (item ∷ items) = (names item.log before ≡ false) × AreNew before items

new_case : (before : List CallbackItem) (item x : CallbackItem) (items : List CallbackItem) (b : Bool) → (item.log == x.log) ≡ b → names item.log (x ∷ items) ≡ false → names x.log before ≡ false
    → (names item.log items ≡ false → AreNew (before ++ item ∷ []) items) → AreNew (before ++ item ∷ []) (x ∷ items)
new_case before item x items true e none new step = let k = rw e at none in absurd cc
new_case before item x items false e none new step = (names-push x.log before item ∙ rw (new, turn item.log x.log e) refl, step (rw e at none)) where
  turn : (m n : ℕ) → (m == n) ≡ false → (n == m) ≡ false
  turn m n h = grind (arith, nat_tests)

new_push : (before : List CallbackItem) (item : CallbackItem) (items : List CallbackItem) → names item.log items ≡ false → AreNew before items → AreNew (before ++ item ∷ []) items
new_push before item [] none h = tt
new_push before item (x ∷ items) none h = new_case before item x items (item.log == x.log) refl none h.0 (λ more. new_push before item items more h.1)

items_again : (n : ℕ) (before items : List CallbackItem) → AreReadAgain items → HaveDifferentLogs items → AreNew before items → items_from n before (whole_from [] (spool_text items)) (last_from [] (spool_text items)) ≡ Ok (before ++ items)
items_again n before [] h d new = ap Ok (sym (append-nil before))
items_again n before (item ∷ items) h d new =
    rw (whole_past [] (item_line item) (spool_text items) h.0.1, last_past [] (item_line item) (spool_text items) h.0.1, h.0.0, new.0)
    (items_again (n + 1) (before ++ item ∷ []) items h.1 d.1 (new_push before item items d.0 new.1) ∙ ap Ok (append_assoc before (item ∷ []) items))

all_new : (items : List CallbackItem) → AreNew [] items
all_new [] = tt
all_new (item ∷ items) = (refl, all_new items)

pub spool_again : (items : List CallbackItem) → AreReadAgain items → HaveDifferentLogs items → spool_at (spool_text items) ≡ Ok items
spool_again items h d = items_again 1 [] items h d (all_new items)
