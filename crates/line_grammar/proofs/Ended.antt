-- Lists whose end, LF or a space, says what follows, are read and said.
use Rattle.std.proofs.Common.{◌≡◌, ◌⊎◌, ℕ, zero, suc, ◌≤◌, true, List, [], ◌∷◌, ◌++◌, length, min, Result, Ok, Err, refl, sym, ap, subst, ◌∙◌, append_assoc, inl, inr, arith, length-append}
use Rattle.std.specs.Prelude.{decimal}
use Rattle.std.proofs.lemmas.Bool.{cases_lt, eq-eqb}
use Rattle.std.proofs.lemmas.Fmt.{decimal_digit}
use Rattle.line_grammar.specs.declared.ends.End.{End}
use Rattle.line_grammar.specs.declared.ends.End.TheVariants.{Space, Line}
use Rattle.line_grammar.specs.declared.numbers.NumberForm.{NumberForm}
use Rattle.line_grammar.specs.declared.numbers.NumberStage.TheVariants.{First}
use Rattle.line_grammar.specs.Languages.{Begins, Stops, Reads}
use Rattle.line_grammar.specs.Reading.{◌>>=◌}
use Rattle.line_grammar.specs.Automata.{run}
use Rattle.line_grammar.specs.Numbers.{end_of, IsNumber, is_number_form, number_step, number_at}
use Rattle.line_grammar.specs.Dashes.{number_form}
use Rattle.line_grammar.specs.Lists.{number_before, count_form, IsNumbers, numbers_at, IsNumberList, number_list_at, ended_at}
use Rattle.line_grammar.proofs.Fronts.{longer}
use Rattle.line_grammar.proofs.Algebra.{bad, ok_is, err_is, ok≢err}
use Rattle.line_grammar.proofs.Decimals.{Bounds, bounds_of, leads, number_whole, number_reads}

-- ---- no text goes on behind the place where reading stopped

no_further_by : {V : Type 0} (M : V → List ℕ → Type 0) (front : List ℕ) (b : ℕ) (more other back : List ℕ) → other ++ back ≡ front ++ (b ∷ more) → ((c : ℕ) (rest : List ℕ) → back ≡ c ∷ rest → Begins M (other ++ c ∷ []) → ⊥) → suc (length more) ≤ length back → Begins M (front ++ b ∷ []) → ⊥
no_further_by M front b more other [] parts longest le begun = absurd (omega arith)
no_further_by M front b more other (c ∷ rest) parts longest le begun =
    let whole : (front ++ b ∷ []) ++ more ≡ other ++ (c ∷ rest) = append_assoc front (b ∷ []) more ∙ sym parts in
    longer (front ++ b ∷ []) more other c rest whole ⊥
    (λ others is. longest c rest refl (begun.0, others ++ begun.1, subst (M begun.0) (ap (λ (x : List ℕ). x ++ begun.1) is ∙ append_assoc other (c ∷ others) begun.1 ∙ sym (append_assoc other (c ∷ []) (others ++ begun.1))) begun.2))
    (λ others is. omega (arith, ap length parts, ap length is, length-append other (c ∷ rest), length-append front (b ∷ more), length-append (front ++ b ∷ []) others, length-append front (b ∷ [])))

no_further : {V : Type 0} (M : V → List ℕ → Type 0) (bytes front : List ℕ) (b : ℕ) (more : List ℕ) (left : ℕ) → Stops M bytes left → bytes ≡ front ++ (b ∷ more) → suc (length more) ≤ left → Begins M (front ++ b ∷ []) → ⊥
no_further M bytes front b more left s parts le begun = no_further_by M front b more s.front s.back (sym s.parts ∙ parts) s.longest (omega (arith, s.left_is)) begun

-- ---- two languages told apart by their ends

module _ {V : Type 0} (L : End → V → List ℕ → Type 0) (read : End → List ℕ → Result (V × List ℕ) ℕ) (reads : (end : End) → Reads (L end) (read end))
    (apart : (v : V) (text rest : List ℕ) → L Space v text → (left : ℕ) × (read Line (text ++ rest) ≡ Err left)) where
  abbrev Said : End × V → List ℕ → Type 0
  Said x text = L x.0 x.1 text

  abbrev Found : (End × V) × List ℕ → List ℕ → Type 0
  Found x bytes = (text : List ℕ) × L x.0.0 x.0.1 text × (bytes ≡ text ++ x.1)

  found_by : (bytes : List ℕ) (x : (End × V) × List ℕ) (line spaced : Result (V × List ℕ) ℕ) → read Line bytes ≡ line → read Space bytes ≡ spaced → ended_at line spaced ≡ Ok x → Found x bytes
  found_by bytes x (Ok y) spaced at there e = subst (λ (q : (End × V) × List ℕ). Found q bytes) (ok_is ((Line, y.0), y.1) x e) ((reads Line).found bytes y.0 y.1 at)
  found_by bytes x (Err left) (Ok y) at there e = subst (λ (q : (End × V) × List ℕ). Found q bytes) (ok_is ((Space, y.0), y.1) x e) ((reads Space).found bytes y.0 y.1 there)
  found_by bytes x (Err left) (Err other) at there e = absurd (ok≢err x (min left other) (Err (min left other)) e refl)

  again_by : (end : End) (v : V) (text rest : List ℕ) → L end v text → ended_at (read Line (text ++ rest)) (read Space (text ++ rest)) ≡ Ok ((end, v), rest)
  again_by Line v text rest h = ap (λ (r : Result (V × List ℕ) ℕ). ended_at r (read Space (text ++ rest))) ((reads Line).again v text rest h)
  again_by Space v text rest h =
      let a = apart v text rest h in
      ap (λ (r : Result (V × List ℕ) ℕ). ended_at r (read Space (text ++ rest))) a.1 ∙ ap (λ (r : Result (V × List ℕ) ℕ). ended_at (bad a.0) r) ((reads Space).again v text rest h)

  -- the nearer place is the one
  stops_near : (bytes : List ℕ) (near far : End) (left other : ℕ) → left ≤ other → Stops (L near) bytes left → Stops (L far) bytes other → ((end : End) → (end ≡ near) ⊎ (end ≡ far)) → Stops Said bytes left
  stops_near bytes near far left other le s t which = record {
    front = s.front;
    back = s.back;
    parts = s.parts;
    left_is = s.left_is;
    begins = ((near, s.begins.0), s.begins.1, s.begins.2);
    longest = λ b more back_is begun. elim (which begun.0.0) [
      | inl is ↦ s.longest b more back_is (begun.0.1, begun.1, subst (λ (end : End). L end begun.0.1 ((s.front ++ b ∷ []) ++ begun.1)) is begun.2)
      | inr is ↦ no_further (L far) bytes s.front b more other t (s.parts ∙ ap (λ (x : List ℕ). s.front ++ x) back_is) (omega (arith, s.left_is, ap length back_is)) (begun.0.1, begun.1, subst (λ (end : End). L end begun.0.1 ((s.front ++ b ∷ []) ++ begun.1)) is begun.2)
    ];
  }

  line_or_space : (end : End) → (end ≡ Line) ⊎ (end ≡ Space)
  line_or_space Line = inl refl
  line_or_space Space = inr refl

  space_or_line : (end : End) → (end ≡ Space) ⊎ (end ≡ Line)
  space_or_line Line = inr refl
  space_or_line Space = inl refl

  stops_by : (bytes : List ℕ) (least : ℕ) (line spaced : Result (V × List ℕ) ℕ) → read Line bytes ≡ line → read Space bytes ≡ spaced → ended_at line spaced ≡ Err least → Stops Said bytes least
  stops_by bytes least (Ok y) spaced at there e = absurd (ok≢err ((Line, y.0), y.1) least (Ok ((Line, y.0), y.1)) refl e)
  stops_by bytes least (Err left) (Ok y) at there e = absurd (ok≢err ((Space, y.0), y.1) least (Ok ((Space, y.0), y.1)) refl e)
  stops_by bytes least (Err left) (Err other) at there e =
      let is = err_is ((End × V) × List ℕ) (min left other) least e in
      let s = (reads Line).stops bytes left at in
      let t = (reads Space).stops bytes other there in
      elim (cases_lt left other) [
        | inl lt ↦ let k : left ≡ least = omega (arith, is) in subst (Stops Said bytes) k (stops_near bytes Line Space left other (omega arith) s t line_or_space)
        | inr ge ↦ let k : other ≡ least = omega (arith, is) in subst (Stops Said bytes) k (stops_near bytes Space Line other left (omega arith) t s space_or_line)
      ]

  pub ended_reads : Reads Said (λ bytes. ended_at (read Line bytes) (read Space bytes))
  ended_reads = record {
    found = λ bytes x rest e. found_by bytes (x, rest) (read Line bytes) (read Space bytes) refl refl e;
    again = λ x text rest h. again_by x.0 x.1 text rest h;
    stops = λ bytes left e. stops_by bytes left (read Line bytes) (read Space bytes) refl refl e;
    some = let s = (reads Line).some in ((Line, s.0), s.1, s.2);
  }

-- ---- a list that ends with a space is none that ends with LF

-- a number that LF would end stops at a space
space_behind : (form : NumberForm) → Bounds form → (n : ℕ) (rest : List ℕ) → form.least ≤ n → n ≤ form.greatest → end_of form n ≡ Line → number_at form (decimal n ++ (32 ∷ rest)) ≡ Err (suc (length rest))
unfolding number_at
space_behind form bounds zero rest low high is = ap (λ (t : List ℕ). run (number_step form) First (t ++ (32 ∷ rest))) (decimal_digit 0 (omega arith)) ∙ rw (eq-eqb form.least 0 (omega arith), is) refl
space_behind form bounds (suc n) rest low high is = leads form bounds (suc n) (suc n) (omega arith) (omega arith) high (32 ∷ rest) ∙ rw is refl

numbers_apart : (least greatest : ℕ) → is_number_form (number_form least greatest Space) ≡ true → (n : ℕ) (ns text rest : List ℕ) → IsNumbers (number_form least greatest Space) (suc n) ns text → (left : ℕ) × (numbers_at (number_form least greatest Line) (suc n) (text ++ rest) ≡ Err left)
unfolding numbers_at
numbers_apart least greatest ok zero ns text rest h =
    let whole : text ++ rest ≡ decimal h.0 ++ (32 ∷ (h.2 ++ rest)) = ap (λ (x : List ℕ). x ++ rest) h.5 ∙ append_assoc h.1 h.2 rest ∙ ap (λ (x : List ℕ). x ++ (h.2 ++ rest)) (h.3.2 ∙ number_whole least greatest Space h.0) ∙ append_assoc (decimal h.0) (32 ∷ []) (h.2 ++ rest) in
    let at = ap (number_at (number_form least greatest Line)) whole ∙ space_behind (number_form least greatest Line) (bounds_of (number_form least greatest Line) ok) h.0 (h.2 ++ rest) h.3.0 h.3.1 (line_behind h.0) in
    (suc (length (h.2 ++ rest)), ap (λ (r : Result (ℕ × List ℕ) ℕ). r >>= λ first. (numbers_at (number_form least greatest Line) 0 first.1 >>= λ others. Ok (first.0 ∷ others.0, others.1))) at) where
      line_behind : (k : ℕ) → end_of (number_form least greatest Line) k ≡ Line
      line_behind zero = refl
      line_behind (suc k) = refl
numbers_apart least greatest ok (suc n) ns text rest h =
    let at = ap (number_at (number_before (suc n) (number_form least greatest Space))) (ap (λ (x : List ℕ). x ++ rest) h.5 ∙ append_assoc h.1 h.2 rest) ∙ (number_reads (number_before (suc n) (number_form least greatest Space)) ok).again h.0 h.1 (h.2 ++ rest) h.3 in
    let others = numbers_apart least greatest ok n h.4.0 h.4.1 (h.4.2 ++ rest) h.4.3 in
    let behind = ap (numbers_at (number_form least greatest Line) (suc n)) (ap (λ (x : List ℕ). x ++ rest) h.4.5 ∙ append_assoc h.4.1 h.4.2 rest) ∙ others.1 in (
      others.0,
      ap (λ (r : Result (ℕ × List ℕ) ℕ). r >>= λ first. (numbers_at (number_form least greatest Line) (suc n) first.1 >>= λ others. Ok (first.0 ∷ others.0, others.1))) at
          ∙ ap (λ (r : Result (List ℕ × List ℕ) ℕ). r >>= λ others. Ok (h.0 ∷ others.0, others.1)) behind,
    )

counted_apart : (most least greatest : ℕ) → is_number_form (count_form most Space) ≡ true → is_number_form (number_form least greatest Space) ≡ true → (n : ℕ) (ns first second rest : List ℕ) → IsNumber (count_form most Space) n first → IsNumbers (number_form least greatest Space) n ns second
    → (left : ℕ) × ((number_at (count_form most Line) (first ++ (second ++ rest)) >>= λ x. numbers_at (number_form least greatest Line) x.0 x.1) ≡ Err left)
counted_apart most least greatest counts ok zero ns first second rest h k =
    let at = ap (number_at (count_form most Line)) (ap (λ (x : List ℕ). x ++ (second ++ rest)) h.2 ∙ append_assoc (decimal 0) (32 ∷ []) (second ++ rest)) ∙ space_behind (count_form most Line) (bounds_of (count_form most Line) counts) 0 (second ++ rest) h.0 h.1 refl in
    (suc (length (second ++ rest)), ap (λ (r : Result (ℕ × List ℕ) ℕ). r >>= λ x. numbers_at (number_form least greatest Line) x.0 x.1) at)
counted_apart most least greatest counts ok (suc n) ns first second rest h k =
    let others = numbers_apart least greatest ok n ns second rest k in
    (others.0, ap (λ (r : Result (ℕ × List ℕ) ℕ). r >>= λ x. numbers_at (number_form least greatest Line) x.0 x.1) ((number_reads (count_form most Line) counts).again (suc n) first (second ++ rest) h) ∙ others.1)

pub list_apart : (most least greatest : ℕ) → is_number_form (count_form most Space) ≡ true → is_number_form (number_form least greatest Space) ≡ true → (ns text rest : List ℕ) → IsNumberList most (number_form least greatest Space) ns text → (left : ℕ) × (number_list_at most (number_form least greatest Line) (text ++ rest) ≡ Err left)
unfolding number_list_at
list_apart most least greatest counts ok ns text rest h =
    let a = counted_apart most least greatest counts ok h.0 ns h.1 h.2 rest h.3 h.4 in
    (a.0, ap (λ (x : List ℕ). number_at (count_form most Line) x >>= λ n. numbers_at (number_form least greatest Line) n.0 n.1) (ap (λ (x : List ℕ). x ++ rest) h.5 ∙ append_assoc h.1 h.2 rest) ∙ a.1)
