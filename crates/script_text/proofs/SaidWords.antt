-- What a word of a line says, as it is written: each is said, and nothing else is.
use Rattle.std.proofs.Common.{◌≡◌, true, ℕ, zero, suc, ◌≤◌, List, [], ◌∷◌, ◌++◌, length, map, get_or, ℤ, Option, refl, sym, ap, subst, ◌∙◌, arith, Some, None}
use Rattle.std.specs.Prelude.{decimal, codes, IfSome, if◌then◌else◌}
use Rattle.std.specs.Fmt.{signed_decimal}
use Rattle.std.specs.Str.{bytes_eq}
use Rattle.std.specs.List.{AllByRecursion}
use Rattle.job_values.specs.declared.words.PoolKind.{PoolKind}
use Rattle.job_values.specs.declared.words.PoolKind.TheVariants.{Fast, Slow}
use Rattle.job_values.specs.declared.words.GroupKind.{GroupKind}
use Rattle.job_values.specs.declared.words.GroupKind.TheVariants.{Auto, Manual}
use Rattle.job_values.specs.declared.words.ScheduleKind.{ScheduleKind}
use Rattle.job_values.specs.declared.words.ScheduleKind.TheVariants.{Never, Cron, FixRate}
use Rattle.job_values.specs.declared.words.Misfire.{Misfire}
use Rattle.job_values.specs.declared.words.Misfire.TheVariants.{DoNothing, FireOnceNow}
use Rattle.job_values.specs.declared.words.Block.{Block}
use Rattle.job_values.specs.declared.words.Block.TheVariants.{SerialExecution, DiscardLater, CoverEarly}
use Rattle.job_values.specs.declared.words.Route.{Route}
use Rattle.job_values.specs.declared.words.Route.TheVariants.{First, Last, Round, Random, ConsistentHash, LeastFrequentlyUsed, LeastRecentlyUsed, Failover, Busyover, ShardingBroadcast}
use Rattle.job_values.specs.Words.{schedule_kind_text, misfire_text, route_text, block_text, group_kind_text, pool_kind_text}
use Rattle.line_grammar.specs.declared.ends.End.{End}
use Rattle.line_grammar.specs.declared.ends.End.TheVariants.{Space, Line}
use Rattle.line_grammar.specs.declared.texts.TextForm.{TextForm}
use Rattle.line_grammar.specs.Ends.{end_byte}
use Rattle.line_grammar.specs.Numbers.{is_number_form}
use Rattle.line_grammar.specs.Texts.{text_form, is_text_form}
use Rattle.line_grammar.specs.Choices.{IsWord, are_apart}
use Rattle.line_grammar.specs.Dashes.{number_form}
use Rattle.line_grammar.specs.Lists.{count_form}
use Rattle.line_grammar.specs.Writing.{quoted, optional_text, counted_texts, counted_numbers}
use Rattle.line_grammar.specs.Grammar.{Grammar, Gives, Number, Text, Optional, Code, Choice, TextList, EndedNumbers, Says}
use Rattle.line_grammar.specs.Parts.{and_then}
use Rattle.line_grammar.specs.Tables.{one_of}
use Rattle.line_grammar.specs.Laws.{IsNumberOf, IsTextOf}
use Rattle.line_grammar.proofs.Decimals.{number_whole}
use Rattle.line_grammar.proofs.Spellings.{text_whole, optional_said, optional_found, text_list_said, text_list_found, number_list_said, number_list_found, within_ends}
use Rattle.line_grammar.proofs.PartLaws.{part_said, part_found}
use Rattle.script_text.specs.Words.{pool_kind, pool_kind_at, group_kind, group_kind_at, schedule_kind, schedule_kind_at, misfire, misfire_at, route, route_at, route_words, block, block_at}
use Rattle.script_text.specs.Spelling.{CodeFits}
use Rattle.script_text.proofs.Codes.{code_said, code_found}

-- ---- a grammar says a value by a text

pub record IsSaid {E : Type 0} (g : Grammar E) (e : E) (text : List ℕ) : Type 0 where
  pub says : Says g e text

pub say_end : {E : Type 0} {e : E} → IsSaid (Gives e) e []
say_end = record { says = (refl, refl) }

pub say_number : {E : Type 0} (least greatest : ℕ) (end : End) {ok : is_number_form (number_form least greatest end) ≡ true} {next : ℕ → Grammar E} {e : E} {rest : List ℕ} (n : ℕ) → least ≤ n → n ≤ greatest → IsSaid (next n) e rest
    → IsSaid (Number (number_form least greatest end) ok next) e ((decimal n ++ end_byte end ∷ []) ++ rest)
say_number least greatest end {rest = rest} n low high s = record { says = (n, decimal n ++ end_byte end ∷ [], rest, (low, high, sym (number_whole least greatest end n)), s.says, refl) }

pub say_below : {E : Type 0} (greatest : ℕ) (end : End) {ok : is_number_form (number_form 0 greatest end) ≡ true} {next : ℕ → Grammar E} {e : E} {rest : List ℕ} (n : ℕ) → n ≤ greatest → IsSaid (next n) e rest
    → IsSaid (Number (number_form 0 greatest end) ok next) e ((decimal n ++ end_byte end ∷ []) ++ rest)
say_below greatest end n high s = say_number 0 greatest end n (omega arith) high s

pub say_text : {E : Type 0} (least greatest : ℕ) (end : End) {ok : is_text_form (text_form least greatest end) ≡ true} {next : List ℕ → Grammar E} {e : E} {rest : List ℕ} (t : List ℕ) → IsTextOf (text_form least greatest Line) t → IsSaid (next t) e rest
    → IsSaid (Text (text_form least greatest end) ok next) e ((quoted t ++ end_byte end ∷ []) ++ rest)
say_text least greatest end {rest = rest} t h s = record { says = (t, quoted t ++ end_byte end ∷ [], rest, (h.utf8, h.least, h.greatest, sym (text_whole (text_form least greatest end) t)), s.says, refl) }

pub say_code : {E : Type 0} (end : End) {next : ℤ → Grammar E} {e : E} {rest : List ℕ} (z : ℤ) → CodeFits z → IsSaid (next z) e rest → IsSaid (Code end next) e ((signed_decimal z ++ end_byte end ∷ []) ++ rest)
say_code end {rest = rest} z h s = record { says = (z, signed_decimal z ++ end_byte end ∷ [], rest, code_said end z h, s.says, refl) }

pub say_optional : {E : Type 0} (least greatest : ℕ) (end : End) {ok : is_text_form (text_form least greatest end) ≡ true} {next : Option (List ℕ) → Grammar E} {e : E} {rest : List ℕ} (o : Option (List ℕ)) → IfSome o (IsTextOf (text_form least greatest Line)) → IsSaid (next o) e rest
    → IsSaid (Optional (text_form least greatest end) ok next) e ((optional_text o ++ end_byte end ∷ []) ++ rest)
say_optional least greatest end {rest = rest} o h s = record { says = (o, optional_text o ++ end_byte end ∷ [], rest, optional_said (text_form least greatest end) o (within o h), s.says, refl) }
  where
    within : (o : Option (List ℕ)) → IfSome o (IsTextOf (text_form least greatest Line)) → IfSome o (IsTextOf (text_form least greatest end))
    within None h = tt
    within (Some t) h = record { utf8 = h.utf8; least = h.least; greatest = h.greatest }

pub say_texts : {E : Type 0} (most least greatest : ℕ) {counts : is_number_form (count_form most Line) ≡ true} {ok : is_text_form (text_form least greatest Line) ≡ true} {next : List (List ℕ) → Grammar E} {e : E} {rest : List ℕ} (ts : List (List ℕ)) → length ts ≤ most → AllByRecursion (IsTextOf (text_form least greatest Line)) ts → IsSaid (next ts) e rest
    → IsSaid (TextList most (text_form least greatest Line) counts ok next) e ((counted_texts ts ++ 10 ∷ []) ++ rest)
say_texts most least greatest {rest = rest} ts le h s = record { says = (ts, counted_texts ts ++ 10 ∷ [], rest, text_list_said most (text_form least greatest Line) ts le h, s.says, refl) }

pub say_ended : {E : Type 0} (most least greatest : ℕ) (end : End) {counts : is_number_form (count_form most Space) ≡ true} {ok : is_number_form (number_form least greatest Space) ≡ true} {next : End → List ℕ → Grammar E} {e : E} {rest : List ℕ} (ns : List ℕ) → length ns ≤ most → AllByRecursion (IsNumberOf (number_form least greatest Line)) ns → IsSaid (next end ns) e rest
    → IsSaid (EndedNumbers most least greatest counts ok next) e ((counted_numbers ns ++ end_byte end ∷ []) ++ rest)
say_ended most least greatest end {rest = rest} ns le h s = record { says = ((end, ns), counted_numbers ns ++ end_byte end ∷ [], rest, number_list_said most (number_form least greatest end) ns le (within_ends least greatest Line end ns h), s.says, refl) }

-- the word at some place says the value that stands for it
pub record HasWord {V : Type 0} (words : List (List ℕ)) (at : ℕ → V) (v : V) (text : List ℕ) : Type 0 where
  pub place : ℕ
  pub word : IsWord words place text
  pub value : at place ≡ v

pub say_word : {E V : Type 0} (word : List ℕ) (words : List (List ℕ)) {ok : are_apart (word ∷ words) ≡ true} (at : ℕ → V) (next : V → Grammar E) {e : E} {rest : List ℕ} (v : V) (text : List ℕ) → HasWord (word ∷ words) at v text → IsSaid (next v) e rest
    → IsSaid (Choice word words ok (λ i. next (at i))) e (text ++ rest)
say_word word words at next {e = e} {rest = rest} v text h s = record { says = (h.place, text, rest, h.word, subst (λ u. Says (next u) e rest) (sym h.value) s.says, refl) }

-- the first place of a word
abbrev pub place_of : List ℕ → List (List ℕ) → ℕ
place_of word [] = 0
place_of word (other ∷ others) = if bytes_eq word other then 0 else suc (place_of word others)

pub say_one_of : {E V : Type 0} (word : V → List ℕ) (first : V) (others : List V) {ok : are_apart (map word (first ∷ others)) ≡ true} (next : V → Grammar E) {e : E} {rest : List ℕ} (v : V)
    → IsWord (map word (first ∷ others)) (place_of (word v) (map word (first ∷ others))) (word v) → get_or (first ∷ others) (place_of (word v) (map word (first ∷ others))) first ≡ v → IsSaid (next v) e rest
    → IsSaid (one_of word first others ok next) e (word v ++ rest)
say_one_of word first others next v there own s =
    say_word (word first) (map word others) (λ i. get_or (first ∷ others) i first) next v (word v) (record { place = place_of (word v) (map word (first ∷ others)); word = there; value = own }) s

pub say_part : {D E : Type 0} (g : Grammar D) (next : D → Grammar E) {d : D} {e : E} {first rest : List ℕ} → IsSaid g d first → IsSaid (next d) e rest → IsSaid (and_then g next) e (first ++ rest)
say_part g next {d = d} {e = e} {first = first} {rest = rest} h s = record { says = part_said g next d e first rest h.says s.says }

-- ---- behind a front, a grammar says only what a relation holds of

pub record SaysOnly {E : Type 0} (S : E → List ℕ → Type 0) (g : Grammar E) (front : List ℕ → List ℕ) : Type 0 where
  pub holds : (e : E) (text : List ℕ) → Says g e text → S e (front text)

pub only_end : {E : Type 0} {S : E → List ℕ → Type 0} {x : E} {front : List ℕ → List ℕ} → S x (front []) → SaysOnly S (Gives x) front
only_end {S = S} {x = x} {front = front} s = record { holds = λ e text h. subst (λ v. S v (front text)) (sym h.0) (subst (λ (t : List ℕ). S x (front t)) (sym h.1) s) }

pub only_number : {E : Type 0} {S : E → List ℕ → Type 0} (least greatest : ℕ) (end : End) {ok : is_number_form (number_form least greatest end) ≡ true} {next : ℕ → Grammar E} {front : List ℕ → List ℕ} → ((n : ℕ) → SaysOnly S (next n) (λ rest. front ((decimal n ++ end_byte end ∷ []) ++ rest)))
    → SaysOnly S (Number (number_form least greatest end) ok next) front
only_number {S = S} least greatest end {front = front} on = record {
  holds = λ e text h.
      subst (λ (t : List ℕ). S e (front t)) (sym (h.5 ∙ ap (λ (x : List ℕ). x ++ h.2) (h.3.2 ∙ number_whole least greatest end h.0))) ((on h.0).holds e h.2 h.4);
}

pub only_text : {E : Type 0} {S : E → List ℕ → Type 0} (least greatest : ℕ) (end : End) {ok : is_text_form (text_form least greatest end) ≡ true} {next : List ℕ → Grammar E} {front : List ℕ → List ℕ} → ((t : List ℕ) → SaysOnly S (next t) (λ rest. front ((quoted t ++ end_byte end ∷ []) ++ rest)))
    → SaysOnly S (Text (text_form least greatest end) ok next) front
only_text {S = S} least greatest end {front = front} on = record {
  holds = λ e text h.
      subst (λ (t : List ℕ). S e (front t)) (sym (h.5 ∙ ap (λ (x : List ℕ). x ++ h.2) (h.3.3 ∙ text_whole (text_form least greatest end) h.0))) ((on h.0).holds e h.2 h.4);
}

pub only_code : {E : Type 0} {S : E → List ℕ → Type 0} (end : End) {next : ℤ → Grammar E} {front : List ℕ → List ℕ} → ((z : ℤ) → SaysOnly S (next z) (λ rest. front ((signed_decimal z ++ end_byte end ∷ []) ++ rest))) → SaysOnly S (Code end next) front
only_code {S = S} end {front = front} on = record {
  holds = λ e text h.
      subst (λ (t : List ℕ). S e (front t)) (sym (h.5 ∙ ap (λ (x : List ℕ). x ++ h.2) (code_found end h.0 h.1 h.3))) ((on h.0).holds e h.2 h.4);
}

pub only_optional : {E : Type 0} {S : E → List ℕ → Type 0} (least greatest : ℕ) (end : End) {ok : is_text_form (text_form least greatest end) ≡ true} {next : Option (List ℕ) → Grammar E} {front : List ℕ → List ℕ} → ((o : Option (List ℕ)) → SaysOnly S (next o) (λ rest. front ((optional_text o ++ end_byte end ∷ []) ++ rest)))
    → SaysOnly S (Optional (text_form least greatest end) ok next) front
only_optional {S = S} least greatest end {front = front} on = record {
  holds = λ e text h.
      subst (λ (t : List ℕ). S e (front t)) (sym (h.5 ∙ ap (λ (x : List ℕ). x ++ h.2) (optional_found (text_form least greatest end) h.0 h.1 h.3))) ((on h.0).holds e h.2 h.4);
}

pub only_texts : {E : Type 0} {S : E → List ℕ → Type 0} (most : ℕ) (form : TextForm) {counts : is_number_form (count_form most form.behind) ≡ true} {ok : is_text_form form ≡ true} {next : List (List ℕ) → Grammar E} {front : List ℕ → List ℕ} → ((ts : List (List ℕ)) → SaysOnly S (next ts) (λ rest. front ((counted_texts ts ++ end_byte form.behind ∷ []) ++ rest)))
    → SaysOnly S (TextList most form counts ok next) front
only_texts {S = S} most form {front = front} on = record {
  holds = λ e text h.
      subst (λ (t : List ℕ). S e (front t)) (sym (h.5 ∙ ap (λ (x : List ℕ). x ++ h.2) (text_list_found most form h.0 h.1 h.3))) ((on h.0).holds e h.2 h.4);
}

pub only_ended : {E : Type 0} {S : E → List ℕ → Type 0} (most least greatest : ℕ) {counts : is_number_form (count_form most Space) ≡ true} {ok : is_number_form (number_form least greatest Space) ≡ true} {next : End → List ℕ → Grammar E} {front : List ℕ → List ℕ} → ((end : End) (ns : List ℕ) → SaysOnly S (next end ns) (λ rest. front ((counted_numbers ns ++ end_byte end ∷ []) ++ rest)))
    → SaysOnly S (EndedNumbers most least greatest counts ok next) front
only_ended {S = S} most least greatest {front = front} on = record {
  holds = λ e text h.
      subst (λ (t : List ℕ). S e (front t)) (sym (h.5 ∙ ap (λ (x : List ℕ). x ++ h.2) (number_list_found most (number_form least greatest h.0.0) h.0.1 h.1 h.3))) ((on h.0.0 h.0.1).holds e h.2 h.4);
}

-- something of each word, by its place
abbrev pub Each : (ℕ → List ℕ → Type 0) → List (List ℕ) → Type 0
Each P [] = Unit {0}
Each P (word ∷ words) = P 0 word × Each (λ i. P (suc i)) words

pub at_place : (P : ℕ → List ℕ → Type 0) (words : List (List ℕ)) → Each P words → (i : ℕ) (text : List ℕ) → IsWord words i text → P i text
at_place P [] all i text h = absurd h
at_place P (word ∷ words) all zero text h = subst (P 0) (sym h) all.0
at_place P (word ∷ words) all (suc i) text h = at_place (λ j. P (suc j)) words all.1 i text h

pub only_word : {E : Type 0} {S : E → List ℕ → Type 0} (word : List ℕ) (words : List (List ℕ)) {ok : are_apart (word ∷ words) ≡ true} {next : ℕ → Grammar E} {front : List ℕ → List ℕ} → Each (λ i w. SaysOnly S (next i) (λ rest. front (w ++ rest))) (word ∷ words)
    → SaysOnly S (Choice word words ok next) front
only_word {S = S} word words {next = next} {front = front} all = record {
  holds = λ e text h.
      subst (λ (t : List ℕ). S e (front t)) (sym h.5) ((at_place (λ i w. SaysOnly S (next i) (λ rest. front (w ++ rest))) (word ∷ words) all h.0 h.1 h.3).holds e h.2 h.4);
}

-- a word at some place is that of the value there
word_there : {V : Type 0} (word : V → List ℕ) (values : List V) (d : V) (i : ℕ) (text : List ℕ) → IsWord (map word values) i text → text ≡ word (get_or values i d)
word_there word [] d i text h = absurd h
word_there word (v ∷ values) d zero text h = h
word_there word (v ∷ values) d (suc i) text h = word_there word values d i text h

pub only_one_of : {E V : Type 0} {S : E → List ℕ → Type 0} (word : V → List ℕ) (first : V) (others : List V) {ok : are_apart (map word (first ∷ others)) ≡ true} {next : V → Grammar E} {front : List ℕ → List ℕ} → ((v : V) → SaysOnly S (next v) (λ rest. front (word v ++ rest)))
    → SaysOnly S (one_of word first others ok next) front
only_one_of {S = S} word first others {front = front} on = record {
  holds = λ e text h.
      let v = get_or (first ∷ others) h.0 first in
      subst (λ (t : List ℕ). S e (front t)) (sym (h.5 ∙ ap (λ (w : List ℕ). w ++ h.2) (word_there word (first ∷ others) first h.0 h.1 h.3))) ((on v).holds e h.2 h.4);
}

pub only_part : {D E : Type 0} {P : D → List ℕ → Type 0} {S : E → List ℕ → Type 0} (g : Grammar D) (next : D → Grammar E) {front : List ℕ → List ℕ} → SaysOnly P g (λ text. text) → ((d : D) (first : List ℕ) → P d first → SaysOnly S (next d) (λ rest. front (first ++ rest)))
    → SaysOnly S (and_then g next) front
only_part {S = S} g next {front = front} part on = record {
  holds = λ e text h.
      let f = part_found g next e text h in
      subst (λ (t : List ℕ). S e (front t)) (sym f.5) ((on f.0 f.1 (part.holds f.0 f.1 f.3)).holds e f.2 f.4);
}

-- ---- which word stands for a value

pub pool_kind_said : (k : PoolKind) → HasWord (codes "fast " ∷ codes "slow " ∷ []) pool_kind_at k (pool_kind_text k ++ 32 ∷ [])
pool_kind_said Fast = record { place = 0; word = refl; value = refl }
pool_kind_said Slow = record { place = 1; word = refl; value = refl }

pub group_kind_said : (k : GroupKind) → HasWord (codes "auto " ∷ codes "manual " ∷ []) group_kind_at k (group_kind_text k ++ 32 ∷ [])
group_kind_said Auto = record { place = 0; word = refl; value = refl }
group_kind_said Manual = record { place = 1; word = refl; value = refl }

pub schedule_kind_said : (k : ScheduleKind) → HasWord (codes "NONE " ∷ codes "CRON " ∷ codes "FIX_RATE " ∷ []) schedule_kind_at k (schedule_kind_text k ++ 32 ∷ [])
schedule_kind_said Never = record { place = 0; word = refl; value = refl }
schedule_kind_said Cron = record { place = 1; word = refl; value = refl }
schedule_kind_said FixRate = record { place = 2; word = refl; value = refl }

pub misfire_said : (k : Misfire) → HasWord (codes "DO_NOTHING " ∷ codes "FIRE_ONCE_NOW " ∷ []) misfire_at k (misfire_text k ++ 32 ∷ [])
misfire_said DoNothing = record { place = 0; word = refl; value = refl }
misfire_said FireOnceNow = record { place = 1; word = refl; value = refl }

pub route_said : (k : Route) → HasWord (codes "FIRST " ∷ route_words) route_at k (route_text k ++ 32 ∷ [])
route_said First = record { place = 0; word = refl; value = refl }
route_said Last = record { place = 1; word = refl; value = refl }
route_said Round = record { place = 2; word = refl; value = refl }
route_said Random = record { place = 3; word = refl; value = refl }
route_said ConsistentHash = record { place = 4; word = refl; value = refl }
route_said LeastFrequentlyUsed = record { place = 5; word = refl; value = refl }
route_said LeastRecentlyUsed = record { place = 6; word = refl; value = refl }
route_said Failover = record { place = 7; word = refl; value = refl }
route_said Busyover = record { place = 8; word = refl; value = refl }
route_said ShardingBroadcast = record { place = 9; word = refl; value = refl }

pub block_said : (k : Block) → HasWord (codes "SERIAL_EXECUTION " ∷ codes "DISCARD_LATER " ∷ codes "COVER_EARLY " ∷ []) block_at k (block_text k ++ 32 ∷ [])
block_said SerialExecution = record { place = 0; word = refl; value = refl }
block_said DiscardLater = record { place = 1; word = refl; value = refl }
block_said CoverEarly = record { place = 2; word = refl; value = refl }

-- ---- and nothing else does

pub only_pool_kind : {E : Type 0} {S : E → List ℕ → Type 0} (next : PoolKind → Grammar E) {front : List ℕ → List ℕ} → ((k : PoolKind) → SaysOnly S (next k) (λ rest. front ((pool_kind_text k ++ 32 ∷ []) ++ rest)))
    → SaysOnly S (pool_kind next) front
only_pool_kind next on = only_word (codes "fast ") (codes "slow " ∷ []) (on Fast, (on Slow, tt))

pub only_group_kind : {E : Type 0} {S : E → List ℕ → Type 0} (next : GroupKind → Grammar E) {front : List ℕ → List ℕ} → ((k : GroupKind) → SaysOnly S (next k) (λ rest. front ((group_kind_text k ++ 32 ∷ []) ++ rest)))
    → SaysOnly S (group_kind next) front
only_group_kind next on = only_word (codes "auto ") (codes "manual " ∷ []) (on Auto, (on Manual, tt))

pub only_schedule_kind : {E : Type 0} {S : E → List ℕ → Type 0} (next : ScheduleKind → Grammar E) {front : List ℕ → List ℕ} → ((k : ScheduleKind) → SaysOnly S (next k) (λ rest. front ((schedule_kind_text k ++ 32 ∷ []) ++ rest)))
    → SaysOnly S (schedule_kind next) front
only_schedule_kind next on = only_word (codes "NONE ") (codes "CRON " ∷ codes "FIX_RATE " ∷ []) (on Never, (on Cron, (on FixRate, tt)))

pub only_misfire : {E : Type 0} {S : E → List ℕ → Type 0} (next : Misfire → Grammar E) {front : List ℕ → List ℕ} → ((k : Misfire) → SaysOnly S (next k) (λ rest. front ((misfire_text k ++ 32 ∷ []) ++ rest)))
    → SaysOnly S (misfire next) front
only_misfire next on = only_word (codes "DO_NOTHING ") (codes "FIRE_ONCE_NOW " ∷ []) (on DoNothing, (on FireOnceNow, tt))

pub only_route : {E : Type 0} {S : E → List ℕ → Type 0} (next : Route → Grammar E) {front : List ℕ → List ℕ} → ((k : Route) → SaysOnly S (next k) (λ rest. front ((route_text k ++ 32 ∷ []) ++ rest)))
    → SaysOnly S (route next) front
only_route next on =
    only_word (codes "FIRST ") route_words (on First, (on Last, (on Round, (on Random, (on ConsistentHash, (on LeastFrequentlyUsed, (on LeastRecentlyUsed, (on Failover, (on Busyover, (on ShardingBroadcast, tt))))))))))

pub only_block : {E : Type 0} {S : E → List ℕ → Type 0} (next : Block → Grammar E) {front : List ℕ → List ℕ} → ((k : Block) → SaysOnly S (next k) (λ rest. front ((block_text k ++ 32 ∷ []) ++ rest)))
    → SaysOnly S (block next) front
only_block next on = only_word (codes "SERIAL_EXECUTION ") (codes "DISCARD_LATER " ∷ codes "COVER_EARLY " ∷ []) (on SerialExecution, (on DiscardLater, (on CoverEarly, tt)))
