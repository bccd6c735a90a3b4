-- Languages that are read, one after the other.
use Rattle.std.proofs.Common.{◌≡◌, ℕ, List, [], ◌∷◌, ◌++◌, Result, Ok, Err, refl, sym, ap, subst, ◌∙◌, append_assoc}
use Rattle.std.proofs.lemmas.List.{append-nil}
use Rattle.line_grammar.proofs.Fronts.{longer}
use Rattle.line_grammar.specs.Reading.{◌>>=◌}
use Rattle.line_grammar.specs.Languages.{Stops, IsOnly, Then, Reads}

-- the value of a step that did not fail
pub bind_ok : {A B : Type 0} (r : Result A ℕ) (f : A → Result B ℕ) (y : B) → (r >>= f) ≡ Ok y → (x : A) × (r ≡ Ok x) × (f x ≡ Ok y)
bind_ok (Ok x) f y e = (x, refl, e)
bind_ok (Err d) f y e = absurd cc

abbrev pub good : {A : Type 0} → A → Result A ℕ
good x = Ok x

abbrev pub bad : {A : Type 0} → ℕ → Result A ℕ
bad n = Err n

pub ok_is : {A : Type 0} (x y : A) → good x ≡ good y → x ≡ y
ok_is x y e = cc

pub err_is : (A : Type 0) (m n : ℕ) → bad {A = A} m ≡ bad n → m ≡ n
err_is A m n e = cc

pub ok≢err : {A : Type 0} (x : A) (n : ℕ) (r : Result A ℕ) → r ≡ Ok x → r ≡ Err n → ⊥
ok≢err x n r e d = cc

-- a step that failed, or the one behind it that did
pub bind_err : {A B : Type 0} (r : Result A ℕ) (f : A → Result B ℕ) (left : ℕ) (P : Type 0) → (r >>= f) ≡ Err left → (r ≡ Err left → P) → ((x : A) → r ≡ Ok x → f x ≡ Err left → P) → P
bind_err (Ok x) f left P e at_first at_second = at_second x refl e
bind_err {A} {B} (Err d) f left P e at_first at_second = at_first (ap (λ (n : ℕ). bad {A = A} n) (err_is B d left e))

-- one value, by no byte
pub only_reads : {V : Type 0} (x : V) → Reads (IsOnly x) (λ bytes. Ok (x, bytes))
only_reads {V} x = record {
  found = λ bytes v rest e. ([], (sym (ap (λ (p : V × List ℕ). p.0) (ok_is (x, bytes) (v, rest) e)), refl), ap (λ (p : V × List ℕ). p.1) (ok_is (x, bytes) (v, rest) e));
  again = λ v text rest l. rw (l.0, l.1) refl;
  stops = λ bytes left e. absurd (ok≢err (x, bytes) left (Ok (x, bytes)) refl e);
  some = (x, [], (refl, refl));
}

-- the first language's text and the second's, put together
abbrev pub both_ways : {V W : Type 0} (L : V → List ℕ → Type 0) (M : V → W → List ℕ → Type 0) (w : W) (v : V) (first second text : List ℕ) → L v first → M v w second → text ≡ first ++ second → Then L M w text
both_ways L M w v first second text l m e = (v, first, second, l, m, e)

then_found : {V W : Type 0} (L : V → List ℕ → Type 0) (M : V → W → List ℕ → Type 0) (first : List ℕ → Result (V × List ℕ) ℕ) (second : V → List ℕ → Result (W × List ℕ) ℕ) (l : Reads L first) (m : (v : V) → Reads (M v) (second v)) (bytes : List ℕ) (w : W) (rest : List ℕ)
    → (first bytes >>= λ x. second x.0 x.1) ≡ Ok (w, rest) → (text : List ℕ) × Then L M w text × (bytes ≡ text ++ rest)
then_found {V} L M first second l m bytes w rest e =
    let b = bind_ok (first bytes) (λ (x : V × List ℕ). second x.0 x.1) (w, rest) e in
    let f = l.found bytes b.0.0 b.0.1 b.1 in
    let s = (m b.0.0).found b.0.1 w rest b.2 in
    (f.0 ++ s.0, (b.0.0, f.0, s.0, f.1, s.1, refl), f.2 ∙ ap (λ (t : List ℕ). f.0 ++ t) s.2 ∙ sym (append_assoc f.0 s.0 rest))

then_again : {V W : Type 0} (L : V → List ℕ → Type 0) (M : V → W → List ℕ → Type 0) (first : List ℕ → Result (V × List ℕ) ℕ) (second : V → List ℕ → Result (W × List ℕ) ℕ) (l : Reads L first) (m : (v : V) → Reads (M v) (second v)) (w : W) (text rest : List ℕ)
    → Then L M w text → (first (text ++ rest) >>= λ x. second x.0 x.1) ≡ Ok (w, rest)
then_again {V} {W} L M first second l m w text rest t =
    let regroup : text ++ rest ≡ t.1 ++ (t.2 ++ rest) = ap (λ (x : List ℕ). x ++ rest) t.5 ∙ append_assoc t.1 t.2 rest in
    let one : first (text ++ rest) ≡ Ok (t.0, t.2 ++ rest) = ap first regroup ∙ l.again t.0 t.1 (t.2 ++ rest) t.3 in
    let two : second t.0 (t.2 ++ rest) ≡ Ok (w, rest) = (m t.0).again w t.2 rest t.4 in
    ap (λ (r : Result (V × List ℕ) ℕ). r >>= λ x. second x.0 x.1) one ∙ two

-- the first word cannot be finished
stops_first : {V W : Type 0} (L : V → List ℕ → Type 0) (M : V → W → List ℕ → Type 0) (first : List ℕ → Result (V × List ℕ) ℕ) (second : V → List ℕ → Result (W × List ℕ) ℕ) (l : Reads L first) (m : (v : V) → Reads (M v) (second v)) (bytes : List ℕ) (left : ℕ)
    → first bytes ≡ Err left → Stops (Then L M) bytes left
stops_first {V} {W} L M first second l m bytes left e =
    let s = l.stops bytes left e in
    let v = s.begins.0 in
    let n = (m v).some in
    record {
      front = s.front;
      back = s.back;
      parts = s.parts;
      left_is = s.left_is;
      begins = (n.0, s.begins.1 ++ n.1, (v, s.front ++ s.begins.1, n.1, s.begins.2, n.2, sym (append_assoc s.front s.begins.1 n.1)));
      longest = λ b more back_is begun.
          let t = begun.2 in
          let whole : (s.front ++ b ∷ []) ++ begun.1 ≡ t.1 ++ t.2 = t.5 in
          let regroup : t.1 ++ t.2 ≡ s.front ++ (b ∷ begun.1) = sym whole ∙ append_assoc s.front (b ∷ []) begun.1 in
          longer (t.1) (t.2) s.front b begun.1 regroup ⊥
          (λ more_first front_is. s.longest b more back_is (t.0, more_first, subst (L t.0) (front_is ∙ sym (append_assoc s.front (b ∷ []) more_first)) t.3))
          (λ rest front_is.
          let bytes_is : bytes ≡ t.1 ++ (rest ++ s.back) = s.parts ∙ ap (λ (x : List ℕ). x ++ s.back) front_is ∙ append_assoc t.1 rest s.back in
          ok≢err (t.0, rest ++ s.back) left (first bytes) (ap first bytes_is ∙ l.again t.0 t.1 (rest ++ s.back) t.3) e);
    }

-- the first word is said, and the second cannot be finished
stops_second : {V W : Type 0} (L : V → List ℕ → Type 0) (M : V → W → List ℕ → Type 0) (first : List ℕ → Result (V × List ℕ) ℕ) (second : V → List ℕ → Result (W × List ℕ) ℕ) (l : Reads L first) (m : (v : V) → Reads (M v) (second v)) (bytes : List ℕ) (left : ℕ)
    → (x : V × List ℕ) → first bytes ≡ Ok x → second x.0 x.1 ≡ Err left → Stops (Then L M) bytes left
stops_second {V} {W} L M first second l m bytes left x e d =
    let f = l.found bytes x.0 x.1 e in
    let s = (m x.0).stops x.1 left d in
    record {
      front = f.0 ++ s.front;
      back = s.back;
      left_is = s.left_is;
      parts = f.2 ∙ ap (λ (t : List ℕ). f.0 ++ t) s.parts ∙ sym (append_assoc f.0 s.front s.back);
      begins = (s.begins.0, s.begins.1, (x.0, f.0, s.front ++ s.begins.1, f.1, s.begins.2, append_assoc f.0 s.front s.begins.1));
      longest = λ b more back_is begun.
          let t = begun.2 in
          let behind : List ℕ = (s.front ++ b ∷ []) ++ begun.1 in
          let here : first (f.0 ++ behind) ≡ Ok (x.0, behind) = l.again x.0 f.0 behind f.1 in
          let there : first (t.1 ++ t.2) ≡ Ok (t.0, t.2) = l.again t.0 t.1 t.2 t.3 in
          let same : f.0 ++ behind ≡ t.1 ++ t.2 = sym (append_assoc f.0 (s.front ++ b ∷ []) begun.1) ∙ ap (λ (u : List ℕ). u ++ begun.1) (sym (append_assoc f.0 s.front (b ∷ []))) ∙ t.5 in
          let pairs : (x.0, behind) ≡ (t.0, t.2) = ok_is (x.0, behind) (t.0, t.2) (sym here ∙ ap first same ∙ there) in
          s.longest b more back_is (begun.0, begun.1, subst (λ (p : V × List ℕ). M p.0 begun.0 p.1) (sym pairs) t.4);
    }

-- a word and another behind it, which may depend on what the first said
pub then_reads : {V W : Type 0} (L : V → List ℕ → Type 0) (M : V → W → List ℕ → Type 0) (first : List ℕ → Result (V × List ℕ) ℕ) (second : V → List ℕ → Result (W × List ℕ) ℕ) → Reads L first → ((v : V) → Reads (M v) (second v)) → Reads (Then L M) (λ bytes. first bytes >>= λ x. second x.0 x.1)
then_reads {V} {W} L M first second l m = record {
  found = λ bytes w rest e. then_found L M first second l m bytes w rest e;
  again = λ w text rest t. then_again L M first second l m w text rest t;
  stops = λ bytes left e. bind_err (first bytes) (λ (x : V × List ℕ). second x.0 x.1) left (Stops (Then L M) bytes left) e (λ d. stops_first L M first second l m bytes left d) (λ x at d. stops_second L M first second l m bytes left x at d);
  some =
      let v = l.some in
      let w = (m v.0).some in
      (w.0, v.1 ++ w.1, (v.0, v.1, w.1, v.2, w.2, refl));
}

-- a reading function that gives the same reads the same
pub reads_as : {V : Type 0} (L : V → List ℕ → Type 0) (read other : List ℕ → Result (V × List ℕ) ℕ) → ((bytes : List ℕ) → read bytes ≡ other bytes) → Reads L read → Reads L other
reads_as L read other same r = record {
  found = λ bytes v rest e. r.found bytes v rest (same bytes ∙ e);
  again = λ v text rest l. sym (same (text ++ rest)) ∙ r.again v text rest l;
  stops = λ bytes left e. r.stops bytes left (same bytes ∙ e);
  some = r.some;
}

-- no text of a language that is read begins another, and no two values have one text
pub no_longer : {V : Type 0} (L : V → List ℕ → Type 0) (read : List ℕ → Result (V × List ℕ) ℕ) → Reads L read → (v w : V) (text more : List ℕ) → L v text → L w (text ++ more) → (v ≡ w) × (more ≡ [])
no_longer {V} L read r v w text more l m =
    let one : read (text ++ more) ≡ Ok (v, more) = r.again v text more l in
    let two : read (text ++ more) ≡ Ok (w, []) = ap read (sym (append-nil (text ++ more))) ∙ r.again w (text ++ more) [] m in
    let pairs : (v, more) ≡ (w, []) = ok_is (v, more) (w, []) (sym one ∙ two) in
    (ap (λ (p : V × List ℕ). p.0) pairs, ap (λ (p : V × List ℕ). p.1) pairs)
