-- The bytes of a character are those that the table of first bytes allows, and no others.
use Rattle.std.proofs.Common.{◌≡◌, ◌⊎◌, ℕ, zero, suc, ◌+◌, ◌-◌, ◌*◌, ◌/◌, ◌%◌, ◌≤◌, ◌<◌, Bool, true, false, cond, ltb, eqb, List, [], ◌∷◌, length, Option, Some, None, refl, ap, subst, ◌∙◌, inl, inr, arith}
use Rattle.std.specs.Str.{IsUtf8}
use lib.Utf8.{scalar, scalar_cases, encode}
use Rattle.std.proofs.lemmas.Bool.{cases_lt, cases_eq, ltb-true, ltb-false, eqb-true, eqb-false, lt-ltb, le-ltb, le-leb, ne_eqb}
use Rattle.std.proofs.lemmas.Str.{IsUtf8-encode}
use Rattle.line_grammar.specs.declared.texts.Tail.{Tail}
use Rattle.line_grammar.specs.Texts.{tail_of}

-- this many bytes of a character's middle
abbrev pub AreNext : ℕ → List ℕ → Type 0
AreNext zero [] = Unit {0}
AreNext zero (b ∷ bs) = ⊥
AreNext (suc n) [] = ⊥
AreNext (suc n) (b ∷ bs) = (128 ≤ b) × (b ≤ 191) × AreNext n bs

-- what may follow a first byte
abbrev pub IsTail : Tail → List ℕ → Type 0
IsTail tail [] = ⊥
IsTail tail (b ∷ bs) = (tail.low ≤ b) × (b ≤ tail.high) × AreNext tail.more bs

abbrev pub tail : ℕ → ℕ → ℕ → Tail
tail low high more = record { low = low; high = high; more = more }

-- ---- numbers as bytes

scalar_low : (c : ℕ) → c < 55296 → scalar c ≡ true
scalar_low c h = rw (lt-ltb c 55296 h) refl

scalar_high : (c : ℕ) → 57344 ≤ c → c < 1114112 → scalar c ≡ true
scalar_high c low high = let k : 55296 ≤ c = omega arith in rw (le-ltb c 55296 k, le-leb 57344 c low, lt-ltb c 1114112 high) refl

encode_2 : (c : ℕ) → 128 ≤ c → c < 2048 → encode c ≡ (192 + c / 64) ∷ (128 + c % 64) ∷ []
unfolding encode
encode_2 c low high = rw (le-ltb c 128 low, lt-ltb c 2048 high) refl

encode_3 : (c : ℕ) → 2048 ≤ c → c < 65536 → encode c ≡ (224 + c / 4096) ∷ (128 + c / 64 % 64) ∷ (128 + c % 64) ∷ []
unfolding encode
encode_3 c low high = let k : 128 ≤ c = omega arith in rw (le-ltb c 128 k, le-ltb c 2048 low, lt-ltb c 65536 high) refl

encode_4 : (c : ℕ) → 65536 ≤ c → encode c ≡ (240 + c / 262144) ∷ (128 + c / 4096 % 64) ∷ (128 + c / 64 % 64) ∷ (128 + c % 64) ∷ []
unfolding encode
encode_4 c low = let k : 128 ≤ c = omega arith in let j : 2048 ≤ c = omega arith in rw (le-ltb c 128 k, le-ltb c 2048 j, le-ltb c 65536 low) refl

-- ---- from bytes to a character

cells_2 : (a b x y : ℕ) → a ≡ x → b ≡ y → a ∷ b ∷ [] ≡ x ∷ y ∷ []
cells_2 a b x y p q = cc

cells_3 : (a b c x y z : ℕ) → a ≡ x → b ≡ y → c ≡ z → a ∷ b ∷ c ∷ [] ≡ x ∷ y ∷ z ∷ []
cells_3 a b c x y z p q r = cc

cells_4 : (a b c d x y z w : ℕ) → a ≡ x → b ≡ y → c ≡ z → d ≡ w → a ∷ b ∷ c ∷ d ∷ [] ≡ x ∷ y ∷ z ∷ w ∷ []
cells_4 a b c d x y z w p q r s = cc

utf8_of : (c : ℕ) (bs : List ℕ) → scalar c ≡ true → encode c ≡ bs → IsUtf8 bs
utf8_of c bs s e = subst (λ (x : List ℕ). IsUtf8 x) e (IsUtf8-encode c s)

pub utf8_2 : (b d : ℕ) → 194 ≤ b → b < 224 → 128 ≤ d → d ≤ 191 → IsUtf8 (b ∷ d ∷ [])
utf8_2 b d p q r s =
    let c : ℕ = (b - 192) * 64 + (d - 128) in
    utf8_of c (b ∷ d ∷ []) (scalar_low c (omega arith))
    (encode_2 c (omega arith) (omega arith) ∙ cells_2 (192 + c / 64) (128 + c % 64) b d (omega arith) (omega arith))

pub utf8_3 : (b d e : ℕ) → 224 ≤ b → b < 240 → 128 ≤ d → d ≤ 191 → 128 ≤ e → e ≤ 191 → (b ≡ 224 → 160 ≤ d) → (b ≡ 237 → d ≤ 159) → IsUtf8 (b ∷ d ∷ e ∷ [])
utf8_3 b d e p q r s t u low surrogate =
    let c : ℕ = (b - 224) * 4096 + (d - 128) * 64 + (e - 128) in
    utf8_of c (b ∷ d ∷ e ∷ [])
    (elim (cases_lt b 238) [
      | inl lt ↦ scalar_low c (below b d e lt q r s t u surrogate)
      | inr ge ↦ scalar_high c (omega arith) (omega arith)
    ])
    (encode_3 c (above b d e p q r s t u low) (omega arith) ∙ cells_3 (224 + c / 4096) (128 + c / 64 % 64) (128 + c % 64) b d e (omega arith) (omega arith) (omega arith))
  where
    below : (x y z : ℕ) → x < 238 → x < 240 → 128 ≤ y → y ≤ 191 → 128 ≤ z → z ≤ 191 → (x ≡ 237 → y ≤ 159) → (x - 224) * 4096 + (y - 128) * 64 + (z - 128) < 55296
    below x y z lt q' r' s' t' u' h =
        elim (cases_eq x 237) [
          | inl is ↦ let k = h is in omega arith
          | inr not_it ↦ omega arith
        ]

    above : (x y z : ℕ) → 224 ≤ x → x < 240 → 128 ≤ y → y ≤ 191 → 128 ≤ z → z ≤ 191 → (x ≡ 224 → 160 ≤ y) → 2048 ≤ (x - 224) * 4096 + (y - 128) * 64 + (z - 128)
    above x y z p' q' r' s' t' u' h =
        elim (cases_eq x 224) [
          | inl is ↦ let k = h is in omega arith
          | inr not_it ↦ omega arith
        ]

pub utf8_4 : (b d e f : ℕ) → 240 ≤ b → b ≤ 244 → 128 ≤ d → d ≤ 191 → 128 ≤ e → e ≤ 191 → 128 ≤ f → f ≤ 191 → (b ≡ 240 → 144 ≤ d) → (b ≡ 244 → d ≤ 143) → IsUtf8 (b ∷ d ∷ e ∷ f ∷ [])
utf8_4 b d e f p q r s t u v w low high =
    let c : ℕ = (b - 240) * 262144 + (d - 128) * 4096 + (e - 128) * 64 + (f - 128) in
    let ge : 65536 ≤ c = above b d e f p r low in
    utf8_of c (b ∷ d ∷ e ∷ f ∷ []) (scalar_high c (omega arith) (below b d e f q s u w high))
    (encode_4 c ge ∙ cells_4 (240 + c / 262144) (128 + c / 4096 % 64) (128 + c / 64 % 64) (128 + c % 64) b d e f (omega arith) (omega arith) (omega arith) (omega arith))
  where
    above : (x y z k : ℕ) → 240 ≤ x → 128 ≤ y → (x ≡ 240 → 144 ≤ y) → 65536 ≤ (x - 240) * 262144 + (y - 128) * 4096 + (z - 128) * 64 + (k - 128)
    above x y z k p' r' h =
        elim (cases_eq x 240) [
          | inl is ↦ let j = h is in omega arith
          | inr not_it ↦ omega arith
        ]

    below : (x y z k : ℕ) → x ≤ 244 → y ≤ 191 → z ≤ 191 → k ≤ 191 → (x ≡ 244 → y ≤ 143) → (x - 240) * 262144 + (y - 128) * 4096 + (z - 128) * 64 + (k - 128) < 1114112
    below x y z k q' s' u' w' h =
        elim (cases_eq x 244) [
          | inl is ↦ let j = h is in omega arith
          | inr not_it ↦ omega arith
        ]

-- ---- from the table to a character

-- what the table says of a first byte
pub record IsLead (b : ℕ) (s : Tail) : Type 0 where
  pub first : 128 ≤ b
  pub low : 128 ≤ s.low
  pub between : s.low ≤ s.high
  pub high : s.high ≤ 191
  pub whole : (bs : List ℕ) → IsTail s bs → IsUtf8 (b ∷ bs)

leaf_2 : (b low high : ℕ) → 194 ≤ b → b < 224 → 128 ≤ low → low ≤ high → high ≤ 191 → IsLead b (tail low high 0)
leaf_2 b low high p q r m s = record { first = omega arith; low = r; between = m; high = s; whole = whole b low high p q r s } where
  whole : (x l h : ℕ) → 194 ≤ x → x < 224 → 128 ≤ l → h ≤ 191 → (bs : List ℕ) → IsTail (tail l h 0) bs → IsUtf8 (x ∷ bs)
  whole x l h p' q' r' s' [] t = absurd t
  whole x l h p' q' r' s' (d ∷ []) t = utf8_2 x d p' q' (omega (arith, t.0)) (omega (arith, t.1))
  whole x l h p' q' r' s' (d ∷ e ∷ bs) t = absurd t.2

leaf_3 : (b low high : ℕ) → 224 ≤ b → b < 240 → 128 ≤ low → low ≤ high → high ≤ 191 → (b ≡ 224 → 160 ≤ low) → (b ≡ 237 → high ≤ 159) → IsLead b (tail low high 1)
leaf_3 b low high p q r m s u v = record { first = omega arith; low = r; between = m; high = s; whole = whole b low high p q r s u v } where
  whole : (x l h : ℕ) → 224 ≤ x → x < 240 → 128 ≤ l → h ≤ 191 → (x ≡ 224 → 160 ≤ l) → (x ≡ 237 → h ≤ 159) → (bs : List ℕ) → IsTail (tail l h 1) bs → IsUtf8 (x ∷ bs)
  whole x l h p' q' r' s' u' v' [] t = absurd t
  whole x l h p' q' r' s' u' v' (d ∷ []) t = absurd t.2
  whole x l h p' q' r' s' u' v' (d ∷ e ∷ []) t =
      utf8_3 x d e p' q' (omega (arith, t.0)) (omega (arith, t.1)) t.2.0 t.2.1 (λ is. let k = u' is in omega (arith, t.0)) (λ is. let k = v' is in omega (arith, t.1))
  whole x l h p' q' r' s' u' v' (d ∷ e ∷ f ∷ bs) t = absurd t.2.2

leaf_4 : (b low high : ℕ) → 240 ≤ b → b ≤ 244 → 128 ≤ low → low ≤ high → high ≤ 191 → (b ≡ 240 → 144 ≤ low) → (b ≡ 244 → high ≤ 143) → IsLead b (tail low high 2)
leaf_4 b low high p q r m s u v = record { first = omega arith; low = r; between = m; high = s; whole = whole b low high p q r s u v } where
  whole : (x l h : ℕ) → 240 ≤ x → x ≤ 244 → 128 ≤ l → h ≤ 191 → (x ≡ 240 → 144 ≤ l) → (x ≡ 244 → h ≤ 143) → (bs : List ℕ) → IsTail (tail l h 2) bs → IsUtf8 (x ∷ bs)
  whole x l h p' q' r' s' u' v' [] t = absurd t
  whole x l h p' q' r' s' u' v' (d ∷ []) t = absurd t.2
  whole x l h p' q' r' s' u' v' (d ∷ e ∷ []) t = absurd t.2.2
  whole x l h p' q' r' s' u' v' (d ∷ e ∷ f ∷ []) t =
      utf8_4 x d e f p' q' (omega (arith, t.0)) (omega (arith, t.1)) t.2.0 t.2.1 t.2.2.0 t.2.2.1 (λ is. let k = u' is in omega (arith, t.0)) (λ is. let k = v' is in omega (arith, t.1))
  whole x l h p' q' r' s' u' v' (d ∷ e ∷ f ∷ g ∷ bs) t = absurd t.2.2.2

some_tail : Tail → Option Tail
some_tail s = Some s

not_none : (t : Bool) (x : Option Tail) (s : Tail) → cond t None x ≡ Some s → (t ≡ false) × (x ≡ Some s)
not_none true x s e = absurd cc
not_none false x s e = (refl, e)

none_left : (s : Tail) → None ≡ Some s → ⊥
none_left s e = cc

pick : (t : Bool) (a : Tail) (x : Option Tail) (s : Tail) (P : Tail → Type 0) → cond t (Some a) x ≡ Some s → (t ≡ true → P a) → (t ≡ false → x ≡ Some s → P s) → P s
pick true a x s P e here there = subst P (tail_is a s e) (here refl) where
  tail_is : (u v : Tail) → Some u ≡ Some v → u ≡ v
  tail_is u v d = cc
pick false a x s P e here there = there refl e

pub lead_of : (b : ℕ) (s : Tail) → tail_of b ≡ Some s → IsLead b s
lead_of b s e =
    let p = not_none (ltb b 194) _ s e in
    let from : 194 ≤ b = ltb-false b 194 p.0 in
    pick (ltb b 224) (tail 128 191 0) _ s (IsLead b) p.1 (λ t. leaf_2 b 128 191 from (ltb-true b 224 t) (omega arith) (omega arith) (omega arith)) (λ t224 e1.
    let from224 : 224 ≤ b = ltb-false b 224 t224 in
    pick (eqb b 224) (tail 160 191 1) _ s (IsLead b) e1 (λ t. let is = eqb-true b 224 t in leaf_3 b 160 191 (omega arith) (omega arith) (omega arith) (omega arith) (omega arith) (λ _. omega arith) (λ k. absurd (omega arith))) (λ n224 e2.
    let ne224 = eqb-false b 224 n224 in
    pick (eqb b 237) (tail 128 159 1) _ s (IsLead b) e2 (λ t. let is = eqb-true b 237 t in leaf_3 b 128 159 (omega arith) (omega arith) (omega arith) (omega arith) (omega arith) (λ k. absurd (omega arith)) (λ _. omega arith)) (λ n237 e3.
    let ne237 = eqb-false b 237 n237 in
    pick (ltb b 240) (tail 128 191 1) _ s (IsLead b) e3 (λ t. leaf_3 b 128 191 from224 (ltb-true b 240 t) (omega arith) (omega arith) (omega arith) (λ k. absurd (ne224 k)) (λ k. absurd (ne237 k))) (λ t240 e4.
    let from240 : 240 ≤ b = ltb-false b 240 t240 in
    pick (eqb b 240) (tail 144 191 2) _ s (IsLead b) e4 (λ t. let is = eqb-true b 240 t in leaf_4 b 144 191 (omega arith) (omega arith) (omega arith) (omega arith) (omega arith) (λ _. omega arith) (λ k. absurd (omega arith))) (λ n240 e5.
    let ne240 = eqb-false b 240 n240 in
    pick (ltb b 244) (tail 128 191 2) _ s (IsLead b) e5 (λ t. let lt = ltb-true b 244 t in leaf_4 b 128 191 from240 (omega arith) (omega arith) (omega arith) (omega arith) (λ k. absurd (ne240 k)) (λ k. absurd (omega arith))) (λ t244 e6.
    pick (eqb b 244) (tail 128 143 2) _ s (IsLead b) e6 (λ t. let is = eqb-true b 244 t in leaf_4 b 128 143 (omega arith) (omega arith) (omega arith) (omega arith) (omega arith) (λ k. absurd (omega arith)) (λ _. omega arith)) (λ n244 e7. absurd (none_left s e7))))))))

-- ---- from a character to the table

-- a character of several bytes, as the table has it
pub record IsWide (c : ℕ) : Type 0 where
  pub first : ℕ
  pub others : List ℕ
  pub tail : Tail
  pub bytes : encode c ≡ first ∷ others
  pub lead : tail_of first ≡ Some tail
  pub fits : IsTail tail others
  pub length_is : length others ≡ 1 + tail.more

tail_2 : (b : ℕ) → 194 ≤ b → b < 224 → tail_of b ≡ Some (tail 128 191 0)
tail_2 b p q = rw (le-ltb b 194 p, lt-ltb b 224 q) refl

tail_3 : (b : ℕ) → 224 < b → b < 240 → (b ≡ 237 → ⊥) → tail_of b ≡ Some (tail 128 191 1)
tail_3 b p q n =
    let low : 194 ≤ b = omega arith in
    let past : 224 ≤ b = omega arith in
    rw (le-ltb b 194 low, le-ltb b 224 past, ne_eqb b 224 (λ e. omega arith), ne_eqb b 237 n, lt-ltb b 240 q) refl

tail_4 : (b : ℕ) → 240 < b → b < 244 → tail_of b ≡ Some (tail 128 191 2)
tail_4 b p q =
    let low : 194 ≤ b = omega arith in
    let past : 224 ≤ b = omega arith in
    let wide : 240 ≤ b = omega arith in
    rw (le-ltb b 194 low, le-ltb b 224 past, ne_eqb b 224 (λ e. omega arith), ne_eqb b 237 (λ e. omega arith), le-ltb b 240 wide, ne_eqb b 240 (λ e. omega arith), lt-ltb b 244 q) refl

at_byte : (b k : ℕ) (s : Tail) → b ≡ k → tail_of k ≡ Some s → tail_of b ≡ Some s
at_byte b k s is e = ap tail_of is ∙ e

wide_2 : (c : ℕ) → 128 ≤ c → c < 2048 → IsWide c
wide_2 c p q = record {
  first = 192 + c / 64;
  others = (128 + c % 64) ∷ [];
  tail = tail 128 191 0;
  bytes = encode_2 c p q;
  lead = tail_2 (192 + c / 64) (omega arith) (omega arith);
  fits = (omega arith, omega arith, tt);
  length_is = refl;
}

wide_3 : (c low high : ℕ) → 2048 ≤ c → c < 65536 → tail_of (224 + c / 4096) ≡ Some (tail low high 1) → low ≤ 128 + c / 64 % 64 → 128 + c / 64 % 64 ≤ high → IsWide c
wide_3 c low high p q e l h = record {
  first = 224 + c / 4096;
  others = (128 + c / 64 % 64) ∷ (128 + c % 64) ∷ [];
  tail = tail low high 1;
  bytes = encode_3 c p q;
  lead = e;
  fits = (l, h, (omega arith, omega arith, tt));
  length_is = refl;
}

wide_4 : (c low high : ℕ) → 65536 ≤ c → tail_of (240 + c / 262144) ≡ Some (tail low high 2) → low ≤ 128 + c / 4096 % 64 → 128 + c / 4096 % 64 ≤ high → IsWide c
wide_4 c low high p e l h = record {
  first = 240 + c / 262144;
  others = (128 + c / 4096 % 64) ∷ (128 + c / 64 % 64) ∷ (128 + c % 64) ∷ [];
  tail = tail low high 2;
  bytes = encode_4 c p;
  lead = e;
  fits = (l, h, (omega arith, omega arith, (omega arith, omega arith, tt)));
  length_is = refl;
}

wide_three : (c : ℕ) → ((c < 55296) ⊎ ((57344 ≤ c) × (c < 1114112))) → 2048 ≤ c → c < 65536 → IsWide c
wide_three c s p q =
    elim (cases_eq (224 + c / 4096) 224) [
      | inl is ↦ wide_3 c 160 191 p q (at_byte (224 + c / 4096) 224 (tail 160 191 1) is refl) (omega arith) (omega arith)
      | inr past ↦ elim (cases_eq (224 + c / 4096) 237) [
        | inl is ↦ wide_3 c 128 159 p q (at_byte (224 + c / 4096) 237 (tail 128 159 1) is refl) (omega arith) (omega arith)
        | inr others ↦ wide_3 c 128 191 p q (tail_3 (224 + c / 4096) (omega arith) (omega arith) others) (omega arith) (omega arith)
      ]
    ]

wide_four : (c : ℕ) → 65536 ≤ c → c < 1114112 → IsWide c
wide_four c p q =
    elim (cases_eq (240 + c / 262144) 240) [
      | inl is ↦ wide_4 c 144 191 p (at_byte (240 + c / 262144) 240 (tail 144 191 2) is refl) (omega arith) (omega arith)
      | inr past ↦ elim (cases_eq (240 + c / 262144) 244) [
        | inl is ↦ wide_4 c 128 143 p (at_byte (240 + c / 262144) 244 (tail 128 143 2) is refl) (omega arith) (omega arith)
        | inr others ↦ wide_4 c 128 191 p (tail_4 (240 + c / 262144) (omega arith) (omega arith)) (omega arith) (omega arith)
      ]
    ]

pub wide : (c : ℕ) → scalar c ≡ true → 128 ≤ c → IsWide c
wide c s p =
    elim (cases_lt c 2048) [
      | inl lt ↦ wide_2 c p lt
      | inr ge ↦ elim (cases_lt c 65536) [
        | inl lt ↦ wide_three c (scalar_cases c s) ge lt
        | inr past ↦ elim (scalar_cases c s) [ inl small ↦ absurd (omega arith) | inr h ↦ wide_four c past h.1 ]
      ]
    ]
