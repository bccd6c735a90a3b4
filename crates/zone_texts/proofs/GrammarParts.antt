-- What grammars say that are put together.
use Rattle.std.proofs.Common.{◌≡◌, ℕ, ◌⊎◌, true, Bool, List, [], ◌∷◌, ◌++◌, refl, sym, ap, subst, inl, inr}
use Rattle.zone_texts.specs.Grammar.{Grammar, Gives, One, Or, Says, and_then, or_else}
use Rattle.zone_texts.specs.Laws.{Behind, GoesOn, SequencesSay, ChoicesSay}
use Rattle.zone_texts.proofs.GrammarLaws.{other_says, cons≢nil}

abbrev Both : {V W : Type 0} → Grammar V → (V → Grammar W) → W → List ℕ → Type 0
Both g k w text = Behind (Says g) (λ v. Says (k v)) w text

-- a byte in front of the first
one_longer : {V W : Type 0} (class : ℕ → Bool) (next : ℕ → Grammar V) (k : V → Grammar W) (w : W) (b : ℕ) (text : List ℕ) → class b ≡ true → Both (next b) k w text → Both (One class next) k w (b ∷ text)
one_longer class next k w b text t h = (h.0, b ∷ h.1, h.2, (t, h.3), h.4, ap (λ (x : List ℕ). b ∷ x) h.5)

or_longer : {V W : Type 0} (class : ℕ → Bool) (next : ℕ → Grammar V) (other : Grammar V) (k : V → Grammar W) (w : W) (b : ℕ) (text : List ℕ) → class b ≡ true → Both (next b) k w text → Both (Or class next other) k w (b ∷ text)
or_longer class next other k w b text t h = (h.0, b ∷ h.1, h.2, inl (t, h.3), h.4, ap (λ (x : List ℕ). b ∷ x) h.5)

in_other : {V W : Type 0} (class : ℕ → Bool) (next : ℕ → Grammar V) (other : Grammar V) (k : V → Grammar W) (w : W) (text : List ℕ) → Both other k w text → Both (Or class next other) k w text
in_other class next other k w text h = (h.0, h.1, h.2, other_says class next other h.0 h.1 h.3, h.4, h.5)

pub parted : {V W : Type 0} (g : Grammar V) (k : V → Grammar W) (w : W) (text : List ℕ) → Says (and_then g k) w text → Both g k w text
parted (Gives x) k w text h = (x, [], text, (refl, refl), h, refl)
parted (One class next) k w [] h = absurd h
parted (One class next) k w (b ∷ text) h = one_longer class next k w b text h.0 (parted (next b) k w text h.1)
parted (Or class next other) k w [] h = in_other class next other k w [] (parted other k w [] h)
parted (Or class next other) k w (b ∷ text) (inl h) = or_longer class next other k w b text h.0 (parted (next b) k w text h.1)
parted (Or class next other) k w (b ∷ text) (inr h) = in_other class next other k w (b ∷ text) (parted other k w (b ∷ text) h)

pub joined : {V W : Type 0} (g : Grammar V) (k : V → Grammar W) (w : W) (v : V) (first second : List ℕ) → Says g v first → Says (k v) w second → Says (and_then g k) w (first ++ second)
joined (Gives x) k w v [] second l m = subst (λ u. Says (k u) w second) l.0 m
joined (Gives x) k w v (b ∷ first) second l m = absurd (cons≢nil b first l.1)
joined (One class next) k w v [] second l m = absurd l
joined (One class next) k w v (b ∷ first) second l m = (l.0, joined (next b) k w v first second l.1 m)
joined (Or class next other) k w v [] second l m = other_says class (λ b. and_then (next b) k) (and_then other k) w second (joined other k w v [] second l m)
joined (Or class next other) k w v (b ∷ first) second (inl l) m = inl (l.0, joined (next b) k w v first second l.1 m)
joined (Or class next other) k w v (b ∷ first) second (inr l) m = inr (joined other k w v (b ∷ first) second l m)

pub sequences : (V W : Type 0) → SequencesSay V W
sequences V W g k w text = (parted g k w text, λ h. subst (Says (and_then g k) w) (sym h.5) (joined g k w h.0 h.1 h.2 h.3 h.4))

chosen : {V : Type 0} (g h : Grammar V) → GoesOn g → (v : V) (text : List ℕ) → Says (or_else g h) v text → Says g v text ⊎ Says h v text
chosen (Gives x) h on v text s = absurd on
chosen (One class next) h on v [] s = inr s
chosen (One class next) h on v (b ∷ text) s = s
chosen (Or class next other) h on v [] s = chosen other h on v [] s
chosen (Or class next other) h on v (b ∷ text) (inl s) = inl (inl s)
chosen (Or class next other) h on v (b ∷ text) (inr s) = elim (chosen other h on v (b ∷ text) s) [
  | inl l ↦ inl (inr l)
  | inr r ↦ inr r
]

either : {V : Type 0} (g h : Grammar V) → GoesOn g → (v : V) (text : List ℕ) → Says g v text ⊎ Says h v text → Says (or_else g h) v text
either (Gives x) h on v text s = absurd on
either (One class next) h on v [] (inl s) = absurd s
either (One class next) h on v [] (inr s) = s
either (One class next) h on v (b ∷ text) s = s
either (Or class next other) h on v [] s = either other h on v [] s
either (Or class next other) h on v (b ∷ text) (inl s) = elim s [
  | inl l ↦ inl l
  | inr r ↦ inr (either other h on v (b ∷ text) (inl r))
]
either (Or class next other) h on v (b ∷ text) (inr s) = inr (either other h on v (b ∷ text) (inr s))

pub choices : (V : Type 0) → ChoicesSay V
choices V g h on v text = (chosen g h on v text, either g h on v text)
