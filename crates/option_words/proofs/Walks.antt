-- The walk over words that give options plainly.
use Rattle.std.proofs.Common.{◌≡◌, ◌≢◌, ◌∙◌, ◌<◌, ◌&&◌, ◌||◌, Bool, true, false, cond, refl, sym, ap, ap₂, subst, List, [], ◌∷◌, ◌++◌, length, fold, Option, Some, None, append-nil, append_assoc, find, slice_index, nat_lt}
use Rattle.std.specs.Option.{option_map_or}
use Rattle.std.specs.Str.{bytes_eq}
use Rattle.std.proofs.lemmas.List.{map-append}
use Rattle.std.proofs.lemmas.Option.{none-some, same_Some}
use Rattle.std.proofs.lemmas.Slice.Eq.{bytes_eq-Decides}
use Rattle.clap.specs.Simple.{Shape}
use Rattle.clap.specs.Takes.{bundle_passes, flag_word_passes, long_passes, react_passes, step_passes, turn_passes, use_passes, value_passes, walk_passes, word_passes}
use Rattle.clap.specs.Walk.{Held, Row, Rule, Step, Text, Walk, after_flag, after_step, has_row, idle, long_met, long_or_other, next, option, option_word, settled, short_or_plain, trailing, used, walked, word_met}
use Rattle.option_words.specs.Forms.{Each}
use Rattle.option_words.specs.Options.{CommandOption}
use Rattle.option_words.specs.Plain.{Use, AreOnce, words_of, IsUseOf, IsTaken}
use Rattle.option_words.proofs.Words.{long_apart, long_joined, more_than_dashes, name_beyond_dashes, no_dashes, no_long, no_short, or_true, same_text}
use Rattle.option_words.proofs.Rows.{AreFresh, Fits, IsFound, IsSound, Taken, at, built_rule, held, next_fresh, opened, passes_use, row, rows, settled_is, settles, used_new}

-- the options and values of some uses
abbrev pub taken : (options : List CommandOption) (uses : List Use) → Each (IsUseOf options) uses → List Taken
taken options [] each = []
taken options (u ∷ us) each = (each.0.0, u.value) ∷ taken options us each.1

abbrev bare : List Row → Held
bare l = record { rows = l; pending = None; skip = 0 }

module _ (s : Shape) where
  -- a use whose value is taken at once
  module _ (closed : List Taken) (tail : Option Taken) (t : Taken) (fits : Fits s.rules closed tail) (sound : IsSound s.rules t) (fresh : has_row t.0.name (rows (closed ++ opened tail)) ≡ false) where
    abbrev seen : List Taken
    seen = closed ++ opened tail

    reacts : react_passes s.rules s.args_override_self (built_rule t.0) (t.1 ∷ []) (held closed tail) ≡ true
    reacts = ap₂ (λ (a b : Bool). a && b) (settles s.rules s.args_override_self closed tail fits)
        (ap (λ (h : Held). use_passes s.args_override_self (built_rule t.0) (t.1 ∷ []) h.rows) (settled_is s.rules closed tail fits)
        ∙ passes_use s.args_override_self t.0 t.1 (rows seen) sound.passes fresh)

    rows_are : used (built_rule t.0) (t.1 ∷ []) (settled s.rules (held closed tail)).rows ≡ rows (seen ++ t ∷ [])
    rows_are = ap (λ (h : Held). used (built_rule t.0) (t.1 ∷ []) h.rows) (settled_is s.rules closed tail fits)
        ∙ used_new t.0 t.1 (rows seen) fresh ∙ sym (map-append row seen (t ∷ []))

    abbrev word : Text
    word = 45 ∷ 45 ∷ (t.0.name ++ (61 ∷ t.1))

    joined_met : word_met s.rules [] false idle 1 word (held closed tail) ≡ (held (seen ++ t ∷ []) None, next idle)
    joined_met =
        ap₂ (λ (b : Bool) (o : Option (Text × Option Text)). cond b (held closed tail, trailing 1) (long_or_other s.rules idle word o (held closed tail)))
        (more_than_dashes t.0.name (61 ∷ t.1) sound.found.some) (long_joined t.0.name t.1 sound.found.some sound.found.no_equals)
        ∙ ap (λ (o : Option Rule). after_flag s.rules idle word (long_met s.rules o (Some t.1) (held closed tail)).0 (long_met s.rules o (Some t.1) (held closed tail)).1) sound.found.by_long
        ∙ ap (λ (l : List Row). (bare l, next idle)) rows_are

    joined_word : word_passes s [] false idle word (held closed tail) ≡ true
    joined_word =
        ap₂ (λ (b : Bool) (o : Option (Text × Option Text)). b || flag_word_passes s.rules s.args_override_self o word (held closed tail))
        (more_than_dashes t.0.name (61 ∷ t.1) sound.found.some) (long_joined t.0.name t.1 sound.found.some sound.found.no_equals)
        ∙ ap (λ (o : Option Rule). long_passes s.rules s.args_override_self o (Some t.1) (held closed tail)) sound.found.by_long
        ∙ reacts

    pub joined_passes : turn_passes s [] (at closed tail) word ≡ true
    joined_passes = ap₂ (λ (b : Bool) (m : Held × Step). b && step_passes s 1 m.0 m.1) joined_word joined_met

    pub joined_walks : walked s.rules [] (at closed tail) word ≡ at (seen ++ t ∷ []) None
    unfolding walked
    joined_walks = ap (λ (m : Held × Step). after_step s.rules word (at closed tail) m.0 m.1) joined_met

  -- an option that waits for its value
  module _ (closed : List Taken) (tail : Option Taken) (c : CommandOption) (fits : Fits s.rules closed tail) (found : IsFound s.rules c) where
    abbrev before : List Taken
    before = closed ++ opened tail

    abbrev waits : Held
    waits = record { rows = rows before; pending = Some (c.name, []); skip = 0 }

    abbrev name_word : Text
    name_word = 45 ∷ 45 ∷ c.name

    name_met : word_met s.rules [] false idle 1 name_word (held closed tail) ≡ (waits, next (option c.name))
    name_met =
        ap₂ (λ (b : Bool) (o : Option (Text × Option Text)). cond b (held closed tail, trailing 1) (long_or_other s.rules idle name_word o (held closed tail)))
        (name_beyond_dashes c.name found.some) (long_apart c.name found.some found.no_equals)
        ∙ ap (λ (o : Option Rule). after_flag s.rules idle name_word (long_met s.rules o None (held closed tail)).0 (long_met s.rules o None (held closed tail)).1) found.by_long
        ∙ ap (λ (h : Held). (record h { pending = Some (c.name, []) }, next (option c.name))) (settled_is s.rules closed tail fits)

    name_passes_word : word_passes s [] false idle name_word (held closed tail) ≡ true
    name_passes_word =
        ap₂ (λ (b : Bool) (o : Option (Text × Option Text)). b || flag_word_passes s.rules s.args_override_self o name_word (held closed tail))
        (name_beyond_dashes c.name found.some) (long_apart c.name found.some found.no_equals)
        ∙ ap (λ (o : Option Rule). long_passes s.rules s.args_override_self o None (held closed tail)) found.by_long
        ∙ settles s.rules s.args_override_self closed tail fits

    pub name_passes : turn_passes s [] (at closed tail) name_word ≡ true
    name_passes = ap₂ (λ (b : Bool) (m : Held × Step). b && step_passes s 1 m.0 m.1) name_passes_word name_met

    abbrev pub waiting_at : Walk
    waiting_at = record { held = waits; waiting = option c.name; position = 1; is_trailing = false; stopped = None }

    pub name_walks : walked s.rules [] (at closed tail) name_word ≡ waiting_at
    unfolding walked
    name_walks = ap (λ (m : Held × Step). after_step s.rules name_word (at closed tail) m.0 m.1) name_met

    -- and then its value
    module _ (v : Text) (some : 0 < length v) (plain : slice_index v 0 ≢ 45) where
      value_met : word_met s.rules [] false (option c.name) 1 v waits ≡ (held before (Some (c, v)), next idle)
      value_met =
          ap₂ (λ (b : Bool) (o : Option (Text × Option Text)). cond b (waits, trailing 1) (long_or_other s.rules (option c.name) v o waits))
          (no_dashes v some plain) (no_long v some plain)
          ∙ ap (λ (o : Option Text). short_or_plain s.rules (option c.name) v o waits) (no_short v some plain)
          ∙ ap (λ (o : Option Rule). ((option_word o c.name v waits).0, next (option_word o c.name v waits).1)) found.by_id
          ∙ ap (λ (b : Bool). (held before (Some (c, v)), next (cond (nat_lt (cond b 1 0) 1) (option c.name) idle))) (same_text c.name)

      value_passes_word : word_passes s [] false (option c.name) v waits ≡ true
      value_passes_word =
          ap (λ (o : Option (Text × Option Text)). bytes_eq v (45 ∷ 45 ∷ []) || flag_word_passes s.rules s.args_override_self o v waits) (no_long v some plain)
          ∙ ap (λ (o : Option Text). bytes_eq v (45 ∷ 45 ∷ []) || option_map_or (λ flags. bundle_passes s.rules s.args_override_self flags waits) o true) (no_short v some plain)
          ∙ or_true (bytes_eq v (45 ∷ 45 ∷ []))

      pub value_passes_turn : turn_passes s [] waiting_at v ≡ true
      value_passes_turn = ap₂ (λ (b : Bool) (m : Held × Step). b && step_passes s 1 m.0 m.1) value_passes_word value_met

      pub value_walks : walked s.rules [] waiting_at v ≡ at before (Some (c, v))
      unfolding walked
      value_walks = ap (λ (m : Held × Step). after_step s.rules v waiting_at m.0 m.1) value_met

  -- ---- the walk over some uses: it passes, and what it leaves is what was there and these

  pub record Walked (closed : List Taken) (tail : Option Taken) (more : List Taken) (words : List Text) : Type 0 where
    pub passes : walk_passes s [] (at closed tail) words ≡ true
    pub last_closed : List Taken
    pub last_tail : Option Taken
    pub fits : Fits s.rules last_closed last_tail
    pub all : last_closed ++ opened last_tail ≡ (closed ++ opened tail) ++ more
    pub ends : fold (walked s.rules []) (at closed tail) words ≡ at last_closed last_tail

  walks_none : (closed : List Taken) (tail : Option Taken) → Fits s.rules closed tail → Walked closed tail [] []
  unfolding walk_passes
  walks_none closed tail fits = record { passes = refl; last_closed = closed; last_tail = tail; fits = fits; all = sym (append-nil (closed ++ opened tail)); ends = refl }

  walks_joined : (closed : List Taken) (tail : Option Taken) (t : Taken) (more : List Taken) (rest : List Text) → Fits s.rules closed tail → IsSound s.rules t
      → has_row t.0.name (rows (closed ++ opened tail)) ≡ false
      → Walked ((closed ++ opened tail) ++ t ∷ []) None more rest → Walked closed tail (t ∷ more) ((45 ∷ 45 ∷ (t.0.name ++ (61 ∷ t.1))) ∷ rest)
  unfolding walk_passes
  walks_joined closed tail t more rest fits sound fresh later =
      let step = joined_walks closed tail t fits sound fresh in
      let before : List Taken = closed ++ opened tail in record {
        passes = ap₂ (λ (b : Bool) (w : Walk). b && walk_passes s [] w rest) (joined_passes closed tail t fits sound fresh) step ∙ later.passes;
        last_closed = later.last_closed;
        last_tail = later.last_tail;
        fits = later.fits;
        all = later.all ∙ ap (λ (l : List Taken). l ++ more) (append-nil (before ++ t ∷ [])) ∙ append_assoc before (t ∷ []) more;
        ends = ap (λ (w : Walk). fold (walked s.rules []) w rest) step ∙ later.ends;
      }

  walks_apart : (closed : List Taken) (tail : Option Taken) (t : Taken) (more : List Taken) (rest : List Text) → Fits s.rules closed tail → IsSound s.rules t
      → 0 < length t.1 → slice_index t.1 0 ≢ 45
      → Walked (closed ++ opened tail) (Some t) more rest → Walked closed tail (t ∷ more) ((45 ∷ 45 ∷ t.0.name) ∷ (t.1 ∷ rest))
  unfolding walk_passes
  walks_apart closed tail t more rest fits sound some plain later =
      let first = name_walks closed tail t.0 fits sound.found in
      let second = value_walks closed tail t.0 fits sound.found t.1 some plain in
      let before : List Taken = closed ++ opened tail in record {
        passes = ap₂ (λ (b : Bool) (w : Walk). b && (turn_passes s [] w t.1 && walk_passes s [] (walked s.rules [] w t.1) rest)) (name_passes closed tail t.0 fits sound.found) first
            ∙ ap₂ (λ (b : Bool) (w : Walk). b && walk_passes s [] w rest) (value_passes_turn closed tail t.0 fits sound.found t.1 some plain) second ∙ later.passes;
        last_closed = later.last_closed;
        last_tail = later.last_tail;
        fits = later.fits;
        all = later.all ∙ append_assoc before (t ∷ []) more;
        ends = ap (λ (w : Walk). fold (walked s.rules []) (walked s.rules [] w t.1) rest) first ∙ ap (λ (w : Walk). fold (walked s.rules []) w rest) second ∙ later.ends;
      }

  module _ (options : List CommandOption) (found : Each (IsFound s.rules) options) (reads : Each (λ c. (v : Text) → IsTaken c.takes v → value_passes (built_rule c) v ≡ true) options) where
    sound_of : (cs : List CommandOption) (c : CommandOption) (name v : Text) → Each (IsFound s.rules) cs → Each (λ c. (v : Text) → IsTaken c.takes v → value_passes (built_rule c) v ≡ true) cs
        → find (λ c. bytes_eq c.name name) cs ≡ Some c → IsTaken c.takes v → IsSound s.rules (c, v) × (c.name ≡ name)
    sound_of [] c name v found reads e is = absurd (none-some c e)
    sound_of (x ∷ xs) c name v found reads e is = go (λ f. sound_of xs c name v found.1 reads.1 f is) (bytes_eq x.name name) refl
      where
        go : (find (λ c. bytes_eq c.name name) xs ≡ Some c → IsSound s.rules (c, v) × (c.name ≡ name)) → (b : Bool) → bytes_eq x.name name ≡ b → IsSound s.rules (c, v) × (c.name ≡ name)
        go more true hit =
            let same : x ≡ c = same_Some x c (rw hit at e) in
            subst (λ (y : CommandOption). IsTaken y.takes v → IsSound s.rules (y, v) × (y.name ≡ name)) same
            (λ t. (record { found = found.0; passes = reads.0 v t }, (bytes_eq-Decides x.name name).0 hit)) is
        go more false miss = more (rw miss at e)

    pub walks : (uses : List Use) (each : Each (IsUseOf options) uses) (closed : List Taken) (tail : Option Taken) → Fits s.rules closed tail
        → AreFresh (closed ++ opened tail) uses → AreOnce uses → Walked closed tail (taken options uses each) (words_of uses)
    walks [] each closed tail fits fresh once = walks_none closed tail fits
    walks (u ∷ us) each closed tail fits fresh once = go (λ closed tail fits fresh. walks us each.1 closed tail fits fresh once.1) u.joined each.0.3.1
      where
        c : CommandOption
        c = each.0.0

        before : List Taken
        before = closed ++ opened tail

        both : IsSound s.rules (c, u.value) × (c.name ≡ u.name)
        both = sound_of options c u.name u.value found reads each.0.1 each.0.2

        new : has_row c.name (rows before) ≡ false
        new = ap (λ (n : Text). has_row n (rows before)) both.1 ∙ fresh.0

        still : AreFresh (before ++ (c, u.value) ∷ []) us
        still = next_fresh before (c, u.value) u.name both.1 us fresh.1 once.0

        go : ((closed : List Taken) (tail : Option Taken) → Fits s.rules closed tail → AreFresh (closed ++ opened tail) us → Walked closed tail (taken options us each.1) (words_of us))
            → (joined : Bool) → (joined ≡ false → slice_index u.value 0 ≢ 45)
            → Walked closed tail ((c, u.value) ∷ taken options us each.1) (cond joined ((45 ∷ 45 ∷ (u.name ++ (61 ∷ u.value))) ∷ []) ((45 ∷ 45 ∷ u.name) ∷ (u.value ∷ [])) ++ words_of us)
        go more true plain =
            subst (λ (n : Text). Walked closed tail ((c, u.value) ∷ taken options us each.1) ((45 ∷ 45 ∷ (n ++ (61 ∷ u.value))) ∷ words_of us)) both.1
            (walks_joined closed tail (c, u.value) (taken options us each.1) (words_of us) fits both.0 new
            (more (before ++ (c, u.value) ∷ []) None tt (subst (λ (l : List Taken). AreFresh l us) (sym (append-nil (before ++ (c, u.value) ∷ []))) still)))
        go more false plain =
            subst (λ (n : Text). Walked closed tail ((c, u.value) ∷ taken options us each.1) ((45 ∷ 45 ∷ n) ∷ (u.value ∷ words_of us))) both.1
            (walks_apart closed tail (c, u.value) (taken options us each.1) (words_of us) fits both.0 each.0.3.0 (plain refl)
            (more before (Some (c, u.value)) (both.0, new) still))
