-- From the matches of a command to what its words say.
use Rattle.std.proofs.Common.{◌≡◌, ◌∙◌, true, refl, sym, ap, subst, ⊎_elim, List, [], Option, Result, Ok, Err, IfOk}
use Rattle.clap.specs.Words.{App, Row, Rule, Text, fault_of, matches_of, takes, kind_of, with_rule}
use Rattle.clap.specs.Kinds.{HasKind}
use Rattle.clap.specs.Faults.{is_simple_and_free}
use Rattle.clap.specs.Simple.{is_simple}
use Rattle.clap.specs.declared.error.Error.{Error}
use Rattle.clap.specs.declared.error.kind.ErrorKind.TheVariants.{OutOfMemory}
use Rattle.option_words.specs.Options.{CommandOption}
use Rattle.option_words.specs.Plain.{Use, text_said}
use Rattle.option_command.specs.Said.{text_in}
use Rattle.option_command.specs.Refusals.{GivesForm, GivesMatches, ReadsWords, GivesPlain}
use Rattle.option_command.specs.declared.refusal.WordsRefusal.{WordsRefusal}
use Rattle.option_command.specs.declared.refusal.WordsRefusal.TheVariants.{Words, Form, Memory}

-- one option more
pub more : (new old a : App) (r : Rule) → new ≡ with_rule old r → old ≡ a → new ≡ with_rule a r
more new old a r e is = e ∙ ap (λ (x : App). with_rule x r) is

pub weaken : {T E : Type 0} (r : Result T E) (P Q : T → Type 0) → ((x : T) → P x → Q x) → IfOk r P → IfOk r Q
weaken (Ok x) P Q f h = f x h
weaken (Err e) P Q f h = tt

-- ---- what the command tells

pub matches_are : (a b : App) (words : List Text) (rows : List Row) → a ≡ b → is_simple_and_free b ≡ true → is_simple b ≡ true
    → (is_simple_and_free a ≡ true → fault_of a words ≡ []) → (is_simple a ≡ true → rows ≡ matches_of a words)
    → (fault_of b words ≡ []) × (rows ≡ matches_of b words)
matches_are a b words rows is free simple none are = (
  ap (λ (x : App). fault_of x words) (sym is) ∙ none (ap is_simple_and_free is ∙ free),
  are (ap is_simple is ∙ simple) ∙ ap (λ (x : App). matches_of x words) is,
)

-- an error where the words have no fault is want of memory
pub memory_free : (a b : App) (words : List Text) (e : Error) → a ≡ b → is_simple_and_free b ≡ true
    → (is_simple_and_free a ≡ true → HasKind (fault_of a words) e) → fault_of b words ≡ [] → kind_of e ≡ OutOfMemory
memory_free a b words e is free kinds none =
    ⊎_elim (λ h. h) (λ h. absurd h) (subst (λ ks. HasKind ks e) (ap (λ (x : App). fault_of x words) is ∙ none) (kinds (ap is_simple_and_free is ∙ free)))

-- and where the command takes them
pub memory_taken : (a b : App) (words : List Text) (e : Error) → a ≡ b → (takes a words ≡ true → kind_of e ≡ OutOfMemory) → takes b words ≡ true → kind_of e ≡ OutOfMemory
memory_taken a b words e is passes taken = passes (ap (λ (x : App). takes x words) is ∙ taken)

-- ---- parts and the whole

-- a part that can't be had refuses the whole
pub refuses : {A B : Type 0} (P : A → Type 0) (Q : B → Type 0) (e : WordsRefusal) → GivesForm P (Err e) → ((y : B) → Q y → (x : A) × P x) → GivesForm Q (Err e)
refuses P Q (Words f) h part = h
refuses P Q Form h part = λ y is. (let p = part y is in h p.0 p.1)
refuses P Q Memory h part = tt

module _ {T : Type 0} (app : App) (IsOptions : (CommandOption → Option Text) → T → Type 0) (words : List Text) where
  pub reads_words : (rows : List Row) (r : Result T WordsRefusal) → (fault_of app words ≡ []) × (rows ≡ matches_of app words)
      → GivesForm (IsOptions (text_in rows)) r → ReadsWords app IsOptions words r
  reads_words rows (Ok o) found h = (found.0, subst (λ rs. IsOptions (text_in rs) o) found.1 h)
  reads_words rows (Err (Words e)) found h = absurd h
  reads_words rows (Err Form) found h = (found.0, λ o is. h o (subst (λ rs. IsOptions (text_in rs) o) (sym found.1) is))
  reads_words rows (Err Memory) found h = tt

  pub refused_words : (e : WordsRefusal) → GivesMatches app words (Err e) → ReadsWords app IsOptions words (Err e)
  refused_words (Words f) h = h
  refused_words Form h = absurd h
  refused_words Memory h = tt

  -- where texts that stand say what the uses say, and some options are those
  pub gives_plain : (uses : List Use) (rows : List Row) (r : Result T WordsRefusal) → rows ≡ matches_of app words
      → ((o : T) → IsOptions (text_in (matches_of app words)) o → IsOptions (text_said uses) o)
      → (o : T) × IsOptions (text_in (matches_of app words)) o
      → GivesForm (IsOptions (text_in rows)) r → GivesPlain IsOptions uses r
  gives_plain uses rows (Ok o) same moves some h = moves o (subst (λ rs. IsOptions (text_in rs) o) same h)
  gives_plain uses rows (Err (Words e)) same moves some h = absurd h
  gives_plain uses rows (Err Form) same moves some h = absurd (h some.0 (subst (λ rs. IsOptions (text_in rs) some.0) (sym same) some.1))
  gives_plain uses rows (Err Memory) same moves some h = refl
