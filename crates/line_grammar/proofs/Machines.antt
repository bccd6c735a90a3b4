-- A word that is read byte by byte reads its language.
use Rattle.std.proofs.Common.{◌≡◌, ℕ, suc, List, [], ◌∷◌, ◌++◌, length, Ok, Err, refl, sym, ap, subst, ◌∙◌, append_assoc}
use Rattle.std.proofs.lemmas.List.{append-nil}
use Rattle.line_grammar.specs.Languages.{Begins, Stops, Reads}
use Rattle.line_grammar.specs.Automata.{Step, Goes, Ends, Refuses, after, run}
use Rattle.line_grammar.proofs.Algebra.{ok_is, err_is, ok≢err}

-- what is to be known of the steps of a word: at which bytes each state stands, and what each step gives
pub record Machine {S V : Type 0} (L : V → List ℕ → Type 0) (step : S → ℕ → Step S V) (start : S) (Stands : S → List ℕ → Type 0) : Type 0 where
  pub starts : Stands start []
  pub goes : (s : S) (front : List ℕ) (b : ℕ) (t : S) → Stands s front → step s b ≡ Goes t → Stands t (front ++ b ∷ [])
  pub ends : (s : S) (front : List ℕ) (b : ℕ) (v : V) → Stands s front → step s b ≡ Ends v → L v (front ++ b ∷ [])
  pub begins : (s : S) (front : List ℕ) → Stands s front → Begins L front
  pub again : (v : V) (text rest : List ℕ) → L v text → run step start (text ++ rest) ≡ Ok (v, rest)

module _ {S V : Type 0} (L : V → List ℕ → Type 0) (step : S → ℕ → Step S V) (start : S) (Stands : S → List ℕ → Type 0) (m : Machine L step start Stands) where
  -- what is found behind the bytes in front
  abbrev Found : List ℕ → List ℕ → V → List ℕ → Type 0
  Found front bytes v rest = (text : List ℕ) × L v (front ++ text) × (bytes ≡ text ++ rest)

  found_on : (front bytes : List ℕ) (b : ℕ) (v : V) (rest : List ℕ) → Found (front ++ b ∷ []) bytes v rest → Found front (b ∷ bytes) v rest
  found_on front bytes b v rest f = (b ∷ f.0, subst (L v) (append_assoc front (b ∷ []) f.0) f.1, ap (λ (t : List ℕ). b ∷ t) f.2)

  found_step : (s : S) (front : List ℕ) (b : ℕ) (bytes : List ℕ) (v : V) (rest : List ℕ) (at : Step S V) → step s b ≡ at → Stands s front
      → ((t : S) → Stands t (front ++ b ∷ []) → run step t bytes ≡ Ok (v, rest) → Found (front ++ b ∷ []) bytes v rest)
      → after at (λ t. run step t bytes) bytes ≡ Ok (v, rest) → Found front (b ∷ bytes) v rest
  found_step s front b bytes v rest (Goes t) is stands on e = found_on front bytes b v rest (on t (m.goes s front b t stands is) e)
  found_step s front b bytes v rest (Ends w) is stands on e =
      let p = ok_is (w, bytes) (v, rest) e in
      subst (λ (q : V × List ℕ). Found front (b ∷ bytes) q.0 q.1) p (b ∷ [], m.ends s front b w stands is, refl)
  found_step s front b bytes v rest Refuses is stands on e = absurd (ok≢err (v, rest) (suc (length bytes)) (Err (suc (length bytes))) e refl)

  found_from : (bytes : List ℕ) (s : S) (front : List ℕ) (v : V) (rest : List ℕ) → Stands s front → run step s bytes ≡ Ok (v, rest) → Found front bytes v rest
  found_from [] s front v rest stands e = absurd (ok≢err (v, rest) 0 (Err 0) e refl)
  found_from (b ∷ bytes) s front v rest stands e = found_step s front b bytes v rest (step s b) refl stands (λ t h d. found_from bytes t (front ++ b ∷ []) v rest h d) e

  -- the state that the bytes in front lead to
  abbrev Leads : S → List ℕ → Type 0
  Leads s front = (x : List ℕ) → run step start (front ++ x) ≡ run step s x

  leads_on : (s : S) (front : List ℕ) (b : ℕ) (t : S) → Leads s front → step s b ≡ Goes t → Leads t (front ++ b ∷ [])
  leads_on s front b t leads is x =
      ap (run step start) (append_assoc front (b ∷ []) x) ∙ leads (b ∷ x) ∙ ap (λ (at : Step S V). after at (λ u. run step u x) x) is

  refused : (s : S) (front : List ℕ) (b : ℕ) → Leads s front → step s b ≡ Refuses → Begins L (front ++ b ∷ []) → ⊥
  refused s front b leads is begun =
      let v = begun.0 in
      let more = begun.1 in
      let read : run step start (((front ++ b ∷ []) ++ more) ++ []) ≡ Ok (v, []) = m.again v ((front ++ b ∷ []) ++ more) [] begun.2 in
      let same : ((front ++ b ∷ []) ++ more) ++ [] ≡ front ++ (b ∷ more) = append-nil ((front ++ b ∷ []) ++ more) ∙ append_assoc front (b ∷ []) more in
      let stuck : run step start (front ++ (b ∷ more)) ≡ Err (suc (length more)) = leads (b ∷ more) ∙ ap (λ (at : Step S V). after at (λ u. run step u more) more) is in
      ok≢err (v, []) (suc (length more)) (run step start (front ++ (b ∷ more))) (sym (ap (run step start) same) ∙ read) stuck

  stops_on : (front bytes : List ℕ) (b left : ℕ) → Stops L ((front ++ b ∷ []) ++ bytes) left → Stops L (front ++ (b ∷ bytes)) left
  stops_on front bytes b left h = subst (λ (x : List ℕ). Stops L x left) (append_assoc front (b ∷ []) bytes) h

  stops_step : (s : S) (front : List ℕ) (b : ℕ) (bytes : List ℕ) (left : ℕ) (at : Step S V) → step s b ≡ at → Stands s front → Leads s front
      → ((t : S) → Stands t (front ++ b ∷ []) → Leads t (front ++ b ∷ []) → run step t bytes ≡ Err left → Stops L ((front ++ b ∷ []) ++ bytes) left)
      → after at (λ t. run step t bytes) bytes ≡ Err left → Stops L (front ++ (b ∷ bytes)) left
  stops_step s front b bytes left (Goes t) is stands leads on e = stops_on front bytes b left (on t (m.goes s front b t stands is) (leads_on s front b t leads is) e)
  stops_step s front b bytes left (Ends w) is stands leads on e = absurd (ok≢err (w, bytes) left (Ok (w, bytes)) refl e)
  stops_step s front b bytes left Refuses is stands leads on e = record {
    front = front;
    back = b ∷ bytes;
    parts = refl;
    left_is = err_is (V × List ℕ) (suc (length bytes)) left e;
    begins = m.begins s front stands;
    longest = λ c more back_is begun. refused s front b leads is (subst (λ (k : ℕ). Begins L (front ++ k ∷ [])) (sym (head_is b c bytes more back_is)) begun);
  } where
    head_is : (a d : ℕ) (x y : List ℕ) → a ∷ x ≡ d ∷ y → a ≡ d
    head_is a d x y h = cc

  stops_from : (bytes : List ℕ) (s : S) (front : List ℕ) (left : ℕ) → Stands s front → Leads s front → run step s bytes ≡ Err left → Stops L (front ++ bytes) left
  stops_from [] s front left stands leads e = record {
    front = front;
    back = [];
    parts = refl;
    left_is = err_is (V × List ℕ) 0 left e;
    begins = m.begins s front stands;
    longest = λ c more back_is begun. absurd cc;
  }
  stops_from (b ∷ bytes) s front left stands leads e = stops_step s front b bytes left (step s b) refl stands leads (λ t h k d. stops_from bytes t (front ++ b ∷ []) left h k d) e

  pub machine_reads : Reads L (run step start)
  machine_reads = record {
    found = λ bytes v rest e. found_from bytes start [] v rest m.starts e;
    again = m.again;
    stops = λ bytes left e. stops_from bytes start [] left m.starts (λ x. refl) e;
    some = m.begins start [] m.starts;
  }
