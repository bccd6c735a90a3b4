-- A grammar in which each byte leads one way is read as it says, and up to where no text of it goes on.
use Rattle.std.proofs.Common.{◌≡◌, ℕ, suc, ◌||◌, ◌⊎◌, Bool, true, false, cond, List, [], ◌∷◌, ◌++◌, length, Result, Ok, Err, refl, sym, ap, ◌∙◌, inl, inr, arith, length-append}
use Rattle.std.proofs.lemmas.Bool.{true≢false, false_from_ne_true, or_left, or_right}
use Rattle.zone_texts.specs.Grammar.{Grammar, Gives, One, Or, Says, reading, ◌>>=◌, at_end, whole}

-- this byte begins some text of the grammar
abbrev pub begins : {V : Type 0} → Grammar V → ℕ → Bool
begins (Gives x) b = false
begins (One class next) b = class b
begins (Or class next other) b = class b || begins other b

-- no byte of the class begins a text of the grammar
abbrev pub Avoids : {V : Type 0} → (ℕ → Bool) → Grammar V → Type 0
Avoids class g = (b : ℕ) → class b ≡ true → begins g b ≡ false

-- each byte leads one way, and each way leads to a text
abbrev pub Clear : {V : Type 0} → Grammar V → Type 0
Clear (Gives x) = Unit {0}
Clear (One class next) = (b : ℕ) × (class b ≡ true) × ((c : ℕ) → class c ≡ true → Clear (next c))
Clear (Or class next other) = ((c : ℕ) → class c ≡ true → Clear (next c)) × Clear other × Avoids class other

abbrev good : {V : Type 0} → V → Result V ℕ
good x = Ok x

abbrev bad : {V : Type 0} → ℕ → Result V ℕ
bad n = Err n

ok_is : {V : Type 0} (x y : V) → good x ≡ good y → x ≡ y
ok_is x y e = cc

err_is : (V : Type 0) (m n : ℕ) → bad {V = V} m ≡ bad n → m ≡ n
err_is V m n e = cc

ok≢err : {V : Type 0} (x : V) (n : ℕ) → good x ≡ bad n → ⊥
ok≢err x n e = cc

err≢ok : {V : Type 0} (x : V) (n : ℕ) → bad n ≡ good x → ⊥
err≢ok x n e = cc

pub cons≢nil : (b : ℕ) (text : List ℕ) → b ∷ text ≡ [] → ⊥
cons≢nil b text e = omega (arith, ap length e)

heads : (a b : ℕ) (x y : List ℕ) → a ∷ x ≡ b ∷ y → a ≡ b
heads a b x y e = cc

both : (b : Bool) → b ≡ true → b ≡ false → ⊥
both b t f = true≢false (sym t ∙ f)

by_test : {V : Type 0} (t : Bool) (r s : Result (V × List ℕ) ℕ) (x : Result V ℕ) (P : Type 0) → (cond t r s >>= at_end) ≡ x → (t ≡ true → (r >>= at_end) ≡ x → P) → (t ≡ false → (s >>= at_end) ≡ x → P) → P
by_test true r s x P e yes_it no_it = yes_it refl e
by_test false r s x P e yes_it no_it = no_it refl e

starts : {V : Type 0} (g : Grammar V) (v : V) (b : ℕ) (text : List ℕ) → Says g v (b ∷ text) → begins g b ≡ true
starts (Gives x) v b text h = absurd (cons≢nil b text h.1)
starts (One class next) v b text h = h.0
starts (Or class next other) v b text (inl h) = or_left (class b) (begins other b) h.0
starts (Or class next other) v b text (inr h) = or_right (class b) (begins other b) (starts other v b text h)

pub other_says : {V : Type 0} (class : ℕ → Bool) (next : ℕ → Grammar V) (other : Grammar V) (v : V) (text : List ℕ) → Says other v text → Says (Or class next other) v text
other_says class next other v [] h = h
other_says class next other v (b ∷ text) h = inr h

-- what is read is said
pub found : {V : Type 0} (g : Grammar V) (bytes : List ℕ) (v : V) → whole g bytes ≡ Ok v → Says g v bytes
found (Gives x) [] v e = (sym (ok_is x v e), refl)
found (Gives x) (b ∷ bytes) v e = absurd (err≢ok v (suc (length bytes)) e)
found (One class next) [] v e = absurd (err≢ok v 0 e)
found (One class next) (b ∷ bytes) v e =
    by_test (class b) (reading (next b) bytes) (Err (suc (length bytes))) (Ok v) ((class b ≡ true) × Says (next b) v bytes) e
    (λ t d. (t, found (next b) bytes v d))
    (λ t d. absurd (err≢ok v (suc (length bytes)) d))
found (Or class next other) [] v e = found other [] v e
found (Or class next other) (b ∷ bytes) v e =
    by_test (class b) (reading (next b) bytes) (reading other (b ∷ bytes)) (Ok v) (((class b ≡ true) × Says (next b) v bytes) ⊎ Says other v (b ∷ bytes)) e
    (λ t d. inl (t, found (next b) bytes v d))
    (λ t d. inr (found other (b ∷ bytes) v d))

-- what is said is read
pub again : {V : Type 0} (g : Grammar V) → Clear g → (bytes : List ℕ) (v : V) → Says g v bytes → whole g bytes ≡ Ok v
again (Gives x) clear [] v h = ap good (sym h.0)
again (Gives x) clear (b ∷ bytes) v h = absurd (cons≢nil b bytes h.1)
again (One class next) clear [] v h = absurd h
again {V} (One class next) clear (b ∷ bytes) v h =
    ap (λ (t : Bool). cond t (reading (next b) bytes) (Err (suc (length bytes))) >>= at_end) h.0 ∙ again (next b) (clear.2 b h.0) bytes v h.1
again (Or class next other) clear [] v h = again other clear.1 [] v h
again (Or class next other) clear (b ∷ bytes) v (inl h) =
    ap (λ (t : Bool). cond t (reading (next b) bytes) (reading other (b ∷ bytes)) >>= at_end) h.0 ∙ again (next b) (clear.0 b h.0) bytes v h.1
again (Or class next other) clear (b ∷ bytes) v (inr h) =
    ap (λ (t : Bool). cond t (reading (next b) bytes) (reading other (b ∷ bytes)) >>= at_end) (false_from_ne_true (class b) (λ t. both (begins other b) (starts other v b bytes h) (clear.2 b t))) ∙ again other clear.1 (b ∷ bytes) v h

-- the bytes begin some text of the grammar
abbrev pub Begins : {V : Type 0} → Grammar V → List ℕ → Type 0
Begins {V} g bytes = (v : V) × (more : List ℕ) × Says g v (bytes ++ more)

-- the longest prefix that begins some text ends where this many bytes are left
pub record Stops {V : Type 0} (g : Grammar V) (bytes : List ℕ) (left : ℕ) : Type 0 where
  pub front : List ℕ
  pub back : List ℕ
  pub parts : bytes ≡ front ++ back
  pub left_is : length back ≡ left
  pub begins : Begins g front
  pub longest : (b : ℕ) (more : List ℕ) → back ≡ b ∷ more → Begins g (front ++ b ∷ []) → ⊥

some : {V : Type 0} (g : Grammar V) → Clear g → Begins g []
some (Gives x) clear = (x, [], (refl, refl))
some (One class next) clear =
    let s = some (next clear.0) (clear.2 clear.0 clear.1) in
    (s.0, clear.0 ∷ s.1, (clear.1, s.2))
some (Or class next other) clear =
    let s = some other clear.1 in
    (s.0, s.1, other_says class next other s.0 s.1 s.2)

stops_here : {V : Type 0} (g : Grammar V) (clear : Clear g) (bytes : List ℕ) (left : ℕ) → length bytes ≡ left → ((b : ℕ) (more : List ℕ) → bytes ≡ b ∷ more → Begins g (b ∷ []) → ⊥) → Stops g bytes left
stops_here g clear bytes left e longest = record {
  front = [];
  back = bytes;
  parts = refl;
  left_is = e;
  begins = some g clear;
  longest = longest;
}

stops_in_one : {V : Type 0} (class : ℕ → Bool) (next : ℕ → Grammar V) (b : ℕ) (bytes : List ℕ) (left : ℕ) → class b ≡ true → Stops (next b) bytes left → Stops (One class next) (b ∷ bytes) left
stops_in_one class next b bytes left t s = record {
  front = b ∷ s.front;
  back = s.back;
  parts = ap (λ (x : List ℕ). b ∷ x) s.parts;
  left_is = s.left_is;
  begins = (s.begins.0, s.begins.1, (t, s.begins.2));
  longest = λ c more is begun. s.longest c more is (begun.0, begun.1, begun.2.1);
}

stops_in_or : {V : Type 0} (class : ℕ → Bool) (next : ℕ → Grammar V) (other : Grammar V) → Avoids class other → (b : ℕ) (bytes : List ℕ) (left : ℕ) → class b ≡ true → Stops (next b) bytes left → Stops (Or class next other) (b ∷ bytes) left
stops_in_or class next other avoids b bytes left t s = record {
  front = b ∷ s.front;
  back = s.back;
  parts = ap (λ (x : List ℕ). b ∷ x) s.parts;
  left_is = s.left_is;
  begins = (s.begins.0, s.begins.1, inl (t, s.begins.2));
  longest = λ c more is begun. elim begun.2 [
    | inl h ↦ s.longest c more is (begun.0, begun.1, h.1)
    | inr h ↦ both (begins other b) (starts other begun.0 b ((s.front ++ c ∷ []) ++ begun.1) h) (avoids b t)
  ];
}

-- a text whose first byte is not of the class is one of the other
in_other : {V : Type 0} (class : ℕ → Bool) (next : ℕ → Grammar V) (other : Grammar V) (b c : ℕ) (bytes front back more begun : List ℕ) (v : V) → class b ≡ false → b ∷ bytes ≡ front ++ back → back ≡ c ∷ more
    → Says (Or class next other) v ((front ++ c ∷ []) ++ begun) → Says other v ((front ++ c ∷ []) ++ begun)
in_other class next other b c bytes [] back more begun v off parts is (inl h) = absurd (both (class c) h.0 (ap class (sym (heads b c bytes more (parts ∙ is))) ∙ off))
in_other class next other b c bytes [] back more begun v off parts is (inr h) = h
in_other class next other b c bytes (a ∷ front) back more begun v off parts is (inl h) = absurd (both (class a) h.0 (ap class (sym (heads b a bytes (front ++ back) parts)) ∙ off))
in_other class next other b c bytes (a ∷ front) back more begun v off parts is (inr h) = h

stops_in_other : {V : Type 0} (class : ℕ → Bool) (next : ℕ → Grammar V) (other : Grammar V) (b : ℕ) (bytes : List ℕ) (left : ℕ) → class b ≡ false → Stops other (b ∷ bytes) left → Stops (Or class next other) (b ∷ bytes) left
stops_in_other class next other b bytes left off s = record {
  front = s.front;
  back = s.back;
  parts = s.parts;
  left_is = s.left_is;
  begins = (s.begins.0, s.begins.1, other_says class next other s.begins.0 (s.front ++ s.begins.1) s.begins.2);
  longest = λ c more is begun. s.longest c more is (begun.0, begun.1, in_other class next other b c bytes s.front s.back more begun.1 begun.0 off s.parts is begun.2);
}

stops_at_end : {V : Type 0} (class : ℕ → Bool) (next : ℕ → Grammar V) (other : Grammar V) (left : ℕ) → Stops other [] left → Stops (Or class next other) [] left
stops_at_end class next other left s = record {
  front = s.front;
  back = s.back;
  parts = s.parts;
  left_is = s.left_is;
  begins = (s.begins.0, s.begins.1, other_says class next other s.begins.0 (s.front ++ s.begins.1) s.begins.2);
  longest = λ c more is begun. absurd (omega (arith, ap length s.parts, length-append s.front s.back, ap length is));
}

-- reading stops where no text goes on
pub stops : {V : Type 0} (g : Grammar V) → Clear g → (bytes : List ℕ) (left : ℕ) → whole g bytes ≡ Err left → Stops g bytes left
stops (Gives x) clear [] left e = absurd (ok≢err x left e)
stops {V} (Gives x) clear (b ∷ bytes) left e = stops_here (Gives x) clear (b ∷ bytes) left (err_is V (suc (length bytes)) left e) (λ c more is begun. cons≢nil c begun.1 begun.2.1)
stops {V} (One class next) clear [] left e = stops_here (One class next) clear [] left (err_is V 0 left e) (λ c more is begun. cons≢nil c more (sym is))
stops {V} (One class next) clear (b ∷ bytes) left e =
    by_test (class b) (reading (next b) bytes) (Err (suc (length bytes))) (Err left) (Stops (One class next) (b ∷ bytes) left) e
    (λ t d. stops_in_one class next b bytes left t (stops (next b) (clear.2 b t) bytes left d))
    (λ t d. stops_here (One class next) clear (b ∷ bytes) left (err_is V (suc (length bytes)) left d) (λ c more is begun. both (class c) begun.2.0 (ap class (sym (heads b c bytes more is)) ∙ t)))
stops (Or class next other) clear [] left e = stops_at_end class next other left (stops other clear.1 [] left e)
stops (Or class next other) clear (b ∷ bytes) left e =
    by_test (class b) (reading (next b) bytes) (reading other (b ∷ bytes)) (Err left) (Stops (Or class next other) (b ∷ bytes) left) e
    (λ t d. stops_in_or class next other clear.2 b bytes left t (stops (next b) (clear.0 b t) bytes left d))
    (λ t d. stops_in_other class next other b bytes left t (stops other clear.1 (b ∷ bytes) left d))
