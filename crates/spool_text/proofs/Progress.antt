-- What is known while a spool text is read.
use Rattle.std.proofs.Common.{◌≡◌, ℕ, ◌+◌, ◌<◌, ◌≤◌, ◌==◌, nat_eq, ◌||◌, Bool, true, false, not, List, [], ◌∷◌, ◌++◌, length, take, drop, position, None, Some, Ok, Err, refl, sym, ap, subst, ◌∙◌, arith, suc, length-drop, if◌then◌else◌}
use Rattle.std.specs.List.{list_any}
use Rattle.std.proofs.lemmas.Bool.Decides.{nat_tests}
use Rattle.std.proofs.lemmas.List.Quantifiers.{position-Some}
use Rattle.job_values.specs.declared.run.CallbackItem.{CallbackItem}
use Rattle.callback_spool.specs.Different.{names, HaveDifferentLogs}
use Rattle.spool_text.specs.Spool.{whole_from, last_from, item_at, goes_on, ends, items_from, spool_at, IsFaultOf, IsLineFault}
use Rattle.std.proofs.lemmas.Bool.{false≢true}
use Rattle.spool_text.specs.declared.fault.SpoolFault.{SpoolFault}
use Rattle.spool_text.specs.declared.fault.SpoolFault.TheVariants.{Bad, NoMemory}
use Rattle.spool_text.proofs.Lines.{cut_at, uncut, different-push, names-push}

-- so many lines gave these items, whose ids are seen; the rest goes on from them
pub record Reads (bytes : List ℕ) (done : ℕ) (items : List CallbackItem) (seen rest : List ℕ) : Type 0 where
  pub from : items_from (done + 1) items (whole_from [] rest) (last_from [] rest) ≡ spool_at bytes
  pub different : HaveDifferentLogs items
  pub seen_are : (log : ℕ) → list_any (nat_eq log) seen ≡ names log items
  pub counts : done + length rest ≤ length bytes

pub reads_none : (bytes : List ℕ) → Reads bytes 0 [] [] bytes
reads_none bytes = record { from = refl; different = tt; seen_are = λ log. refl; counts = omega arith }

-- all is read
pub reads_all : (bytes : List ℕ) (done : ℕ) (items : List CallbackItem) (seen : List ℕ) → Reads bytes done items seen [] → spool_at bytes ≡ Ok items
reads_all bytes done items seen h = sym h.from

ends_bad : (n : ℕ) (items : List CallbackItem) (rest : List ℕ) → 0 < length rest → ends n items rest ≡ Err n
ends_bad n items [] h = absurd (omega arith)
ends_bad n items (b ∷ bs) h = refl

-- a line without LF
pub reads_uncut : (bytes : List ℕ) (done : ℕ) (items : List CallbackItem) (seen rest : List ℕ) → Reads bytes done items seen rest → position (λ b. b == 10) rest ≡ None → 0 < length rest → spool_at bytes ≡ Err (done + 1)
reads_uncut bytes done items seen rest h none some =
    let u = uncut rest none in
    sym h.from ∙ rw (u.whole, u.last) (ends_bad (done + 1) items rest some)

-- a line with its LF
pub reads_line : (bytes : List ℕ) (done : ℕ) (items : List CallbackItem) (seen rest : List ℕ) (i : ℕ) → Reads bytes done items seen rest → position (λ b. b == 10) rest ≡ Some i
    → spool_at bytes ≡ goes_on (done + 1) items (item_at (take i rest)) (λ all. items_from (done + 1 + 1) all (whole_from [] (drop (suc i) rest)) (last_from [] (drop (suc i) rest)))
reads_line bytes done items seen rest i h at = let c = cut_at rest i at in sym h.from ∙ rw (c.whole, c.last) refl

-- a line that is no item
pub reads_no_item : (bytes : List ℕ) (done : ℕ) (items : List CallbackItem) (seen rest : List ℕ) (i : ℕ) → Reads bytes done items seen rest → position (λ b. b == 10) rest ≡ Some i → item_at (take i rest) ≡ None → spool_at bytes ≡ Err (done + 1)
reads_no_item bytes done items seen rest i h at none = reads_line bytes done items seen rest i h at ∙ rw none refl

-- a line with the log of an earlier one
pub reads_again : (bytes : List ℕ) (done : ℕ) (items : List CallbackItem) (seen rest : List ℕ) (i : ℕ) (item : CallbackItem) → Reads bytes done items seen rest → position (λ b. b == 10) rest ≡ Some i → item_at (take i rest) ≡ Some item
    → list_any (nat_eq item.log) seen ≡ true → spool_at bytes ≡ Err (done + 1)
reads_again bytes done items seen rest i item h at is again =
    let named : names item.log items ≡ true = sym (h.seen_are item.log) ∙ again in
    reads_line bytes done items seen rest i h at ∙ rw (is, named) refl

turn : (m n : ℕ) → (m == n) ≡ (n == m)
turn m n = grind (arith, nat_tests)

-- the fault of a line is that of the text
pub reads_fault : (bytes : List ℕ) (done : ℕ) (items : List CallbackItem) (seen rest : List ℕ) (i : ℕ) (e : SpoolFault) → Reads bytes done items seen rest → position (λ b. b == 10) rest ≡ Some i → IsLineFault (done + 1) (item_at (take i rest)) e → IsFaultOf (spool_at bytes) e
reads_fault bytes done items seen rest i (Bad line) h at fault = reads_no_item bytes done items seen rest i h at fault.0 ∙ ap Err (sym fault.1)
reads_fault bytes done items seen rest i NoMemory h at fault = tt

pub was_seen : (new again : Bool) → new ≡ not again → new ≡ false → again ≡ true
was_seen new true e f = refl
was_seen new false e f = absurd (false≢true (sym f ∙ e))

pub was_new : (new again : Bool) → new ≡ not again → new ≡ true → again ≡ false
was_new new true e f = absurd (false≢true (sym e ∙ f))
was_new new false e f = refl

-- a further item
pub reads_more : (bytes : List ℕ) (done : ℕ) (items : List CallbackItem) (seen seen' rest : List ℕ) (i : ℕ) (item : CallbackItem) → Reads bytes done items seen rest → position (λ b. b == 10) rest ≡ Some i → item_at (take i rest) ≡ Some item
    → list_any (nat_eq item.log) seen ≡ false → ((log : ℕ) → list_any (nat_eq log) seen' ≡ (if item.log == log then true else list_any (nat_eq log) seen)) → Reads bytes (done + 1) (items ++ item ∷ []) seen' (drop (i + 1) rest)
reads_more bytes done items seen seen' rest i item h at is new more =
    let unnamed : names item.log items ≡ false = sym (h.seen_are item.log) ∙ new in
    let place : suc i ≡ i + 1 = omega arith in
    let P : ℕ → Type 0 = λ k. Reads bytes (done + 1) (items ++ item ∷ []) seen' (drop k rest) in
    let lt = (position-Some (λ b. b == 10) rest i 0 at).0 in
    subst P place (record {
      from = sym (reads_line bytes done items seen rest i h at ∙ rw (is, unnamed) refl);
      different = different-push items item h.different unnamed;
      seen_are = λ log. more log ∙ (rw (h.seen_are log, turn item.log log) (or_turn (log == item.log) (names log items)) ∙ sym (names-push log items item));
      counts = omega (arith, h.counts, length-drop (suc i) rest);
    }) where
      or_turn : (a b : Bool) → (if a then true else b) ≡ (b || a)
      or_turn true true = refl
      or_turn true false = refl
      or_turn false true = refl
      or_turn false false = refl
