-- The spec of a job is said by its words, and by nothing else.
use Rattle.std.proofs.Common.{◌≡◌, ℕ, ◌≤◌, List, [], ◌∷◌, ◌++◌, length, arith, refl, ap, sym, subst, ◌∙◌, append_assoc}
use Rattle.std.specs.Prelude.{decimal, codes}
use Rattle.std.proofs.lemmas.List.{append-nil}
use Rattle.job_values.specs.declared.spec.JobSpec.{JobSpec}
use Rattle.job_values.specs.declared.words.ScheduleKind.{ScheduleKind}
use Rattle.job_values.specs.declared.words.Misfire.{Misfire}
use Rattle.job_values.specs.declared.words.Route.{Route}
use Rattle.job_values.specs.declared.words.Block.{Block}
use Rattle.job_values.specs.Words.{schedule_kind_text, misfire_text, route_text, block_text}
use Rattle.line_grammar.specs.declared.ends.End.{End}
use Rattle.line_grammar.specs.declared.ends.End.TheVariants.{Space, Line}
use Rattle.line_grammar.specs.Ends.{end_byte}
use Rattle.line_grammar.specs.Languages.{IsOnly, Then}
use Rattle.line_grammar.specs.Texts.{text_form, IsText}
use Rattle.line_grammar.specs.Laws.{IsTextOf}
use Rattle.line_grammar.specs.Parts.{and_then}
use Rattle.line_grammar.proofs.Spellings.{text_whole}
use Rattle.line_grammar.specs.Dashes.{number_form}
use Rattle.line_grammar.specs.Writing.{quoted, counted_numbers}
use Rattle.line_grammar.specs.Grammar.{Grammar, Gives, Number, Text, EndedNumbers, Says}
use Rattle.script_text.specs.Words.{schedule_kind_at, misfire, misfire_at, route, route_at, route_words, block, block_at}
use Rattle.script_text.specs.Lines.{zone, spec}
use Rattle.script_text.specs.Spelling.{zone_text, spec_text, SpecFits}
use Rattle.script_text.proofs.SaidWords.{IsSaid, SaysOnly, say_end, say_number, say_below, say_text, say_ended, say_word, say_part, only_end, only_number, only_text, only_ended, only_part, at_place, only_schedule_kind, only_misfire, only_route, only_block, schedule_kind_said, misfire_said, route_said, block_said}
use Rattle.job_values.specs.declared.limits.TheConstants.{LAST_JOB_ID, LAST_SECONDS, LAST_RETRIES, LONGEST_PARAM, LONGEST_SCHEDULE_GIVEN, LONGEST_NAME, MOST_CHILDREN}

-- ---- the branches of a spec behind the words that choose

abbrev job_of : ℕ → ScheduleKind → List ℕ → Misfire → Route → Block → List ℕ → List ℕ → ℕ → ℕ → List ℕ → List ℕ → JobSpec
job_of g k q m r b h p t n l z = record { group = g; kind = k; schedule = q; misfire = m; route = r; block = b; handler = h; param = p; timeout = t; retries = n; children = l; zone = z }

abbrev behind_block : ℕ → ScheduleKind → List ℕ → Misfire → Route → Block → Grammar JobSpec
behind_block g k q m r b =
    Text (text_form 0 LONGEST_NAME Space) refl (λ h. Text (text_form 0 LONGEST_PARAM Space) refl (λ p. Number (number_form 0 LAST_SECONDS Space) refl (λ t. Number (number_form 0 LAST_RETRIES Space) refl (λ n. EndedNumbers MOST_CHILDREN 1 LAST_JOB_ID refl refl (λ end l. and_then (zone end) (λ z. Gives (job_of g k q m r b h p t n l z)))))))

abbrev behind_route : ℕ → ScheduleKind → List ℕ → Misfire → Route → Grammar JobSpec
behind_route g k q m r = block (behind_block g k q m r)

abbrev behind_misfire : ℕ → ScheduleKind → List ℕ → Misfire → Grammar JobSpec
behind_misfire g k q m = route (behind_route g k q m)

abbrev behind_kind : ℕ → ScheduleKind → Grammar JobSpec
behind_kind g k = Text (text_form 0 LONGEST_SCHEDULE_GIVEN Space) refl (λ q. misfire (behind_misfire g k q))

-- ---- how the words are put together

shift : (x y rest : List ℕ) → (x ++ 32 ∷ []) ++ ((y ++ 32 ∷ []) ++ rest) ≡ ((x ++ 32 ∷ y) ++ 32 ∷ []) ++ rest
shift x y rest = simp append_assoc

-- the byte c ends the last word, and z stands behind it
last_word : (x y : List ℕ) (c : ℕ) (z w : List ℕ) → c ∷ z ≡ w ++ 10 ∷ [] → (x ++ 32 ∷ []) ++ ((y ++ c ∷ []) ++ (z ++ [])) ≡ ((x ++ 32 ∷ y) ++ w) ++ 10 ∷ []
last_word x y c z w is = apart x y c z ∙ ap (λ (v : List ℕ). x ++ 32 ∷ (y ++ v)) is ∙ together x y w where
  apart : (x y : List ℕ) (c : ℕ) (z : List ℕ) → (x ++ 32 ∷ []) ++ ((y ++ c ∷ []) ++ (z ++ [])) ≡ x ++ 32 ∷ (y ++ c ∷ z)
  apart x y c z = simp (append_assoc, append-nil)

  together : (x y w : List ℕ) → x ++ 32 ∷ (y ++ (w ++ 10 ∷ [])) ≡ ((x ++ 32 ∷ y) ++ w) ++ 10 ∷ []
  together x y w = simp append_assoc

regroup : (u h p t n l : List ℕ) → (u ++ h ++ p ++ t ++ n) ++ l ≡ u ++ (h ++ p ++ t ++ n ++ l)
regroup u h p t n l = simp append_assoc

spec_words : (g k q m r b h p t n l : List ℕ) (c : ℕ) (z w : List ℕ) → c ∷ z ≡ w ++ 10 ∷ []
    → (g ++ 32 ∷ []) ++ ((k ++ 32 ∷ []) ++ ((q ++ 32 ∷ []) ++ ((m ++ 32 ∷ []) ++ ((r ++ 32 ∷ []) ++ ((b ++ 32 ∷ []) ++ ((h ++ 32 ∷ []) ++ ((p ++ 32 ∷ []) ++ ((t ++ 32 ∷ []) ++ ((n ++ 32 ∷ []) ++ ((l ++ c ∷ []) ++ (z ++ [])))))))))))
    ≡ ((g ++ 32 ∷ k ++ 32 ∷ q ++ 32 ∷ m ++ 32 ∷ r ++ 32 ∷ b) ++ (32 ∷ h ++ 32 ∷ p ++ 32 ∷ t ++ 32 ∷ n ++ 32 ∷ l) ++ w) ++ 10 ∷ []
spec_words g k q m r b h p t n l c z w is =
    let tr : List ℕ = g ++ 32 ∷ k ++ 32 ∷ q ++ 32 ∷ m ++ 32 ∷ r ++ 32 ∷ b in
    shift g k _ ∙ shift (g ++ 32 ∷ k) q _ ∙ shift (g ++ 32 ∷ k ++ 32 ∷ q) m _ ∙ shift (g ++ 32 ∷ k ++ 32 ∷ q ++ 32 ∷ m) r _ ∙ shift (g ++ 32 ∷ k ++ 32 ∷ q ++ 32 ∷ m ++ 32 ∷ r) b _
    ∙ shift tr h _ ∙ shift (tr ++ 32 ∷ h) p _ ∙ shift (tr ++ 32 ∷ h ++ 32 ∷ p) t _ ∙ shift (tr ++ 32 ∷ h ++ 32 ∷ p ++ 32 ∷ t) n _
    ∙ last_word (tr ++ 32 ∷ h ++ 32 ∷ p ++ 32 ∷ t ++ 32 ∷ n) l c z w is ∙ ap (λ (x : List ℕ). (x ++ w) ++ 10 ∷ []) (regroup tr (32 ∷ h) (32 ∷ p) (32 ∷ t) (32 ∷ n) (32 ∷ l))

-- ---- the zone

-- what ends the children, and what stands behind that
abbrev end_behind : List ℕ → End
end_behind [] = Line
end_behind (b ∷ z) = Space

abbrev zone_line : List ℕ → List ℕ
zone_line [] = []
zone_line (b ∷ z) = codes "zone " ++ (quoted (b ∷ z) ++ 10 ∷ [])

zone_shift : (z : List ℕ) → end_byte (end_behind z) ∷ zone_line z ≡ zone_text z ++ 10 ∷ []
zone_shift [] = refl
zone_shift (b ∷ z) = refl

zone_said : (z : List ℕ) → IsTextOf (text_form 0 LONGEST_NAME Line) z → IsSaid (zone (end_behind z)) z (zone_line z)
zone_said [] f = say_end
zone_said (b ∷ z) f =
    let text : List ℕ = quoted (b ∷ z) ++ 10 ∷ [] in
    record { says = (0, codes "zone ", text, refl, (b ∷ z, text, [], (f.utf8, omega arith, f.greatest, sym (text_whole (text_form 1 LONGEST_NAME Line) (b ∷ z))), (refl, refl), sym (append-nil text)), refl) }

-- the end and the text are those of this zone
abbrev IsZoneText : End → List ℕ → List ℕ → Type 0
IsZoneText end z text = (end ≡ end_behind z) × (text ≡ zone_line z)

named : (z : List ℕ) → 1 ≤ length z → IsZoneText Space z (codes "zone " ++ (quoted z ++ 10 ∷ []))
named [] some = absurd (omega arith)
named (b ∷ z) some = (refl, refl)

named_found : (z text : List ℕ) → Then (IsText (text_form 1 LONGEST_NAME Line)) (λ t. IsOnly t) z text → IsZoneText Space z (codes "zone " ++ text)
named_found z text h =
    let same : text ≡ quoted z ++ 10 ∷ [] = h.5 ∙ ap (λ (x : List ℕ). x ++ h.2) (h.3.3 ∙ text_whole (text_form 1 LONGEST_NAME Line) h.0) ∙ ap (λ (x : List ℕ). (quoted h.0 ++ 10 ∷ []) ++ x) h.4.1 ∙ append-nil (quoted h.0 ++ 10 ∷ []) ∙ ap (λ (x : List ℕ). quoted x ++ 10 ∷ []) (sym h.4.0) in
    subst (λ (t : List ℕ). IsZoneText Space z (codes "zone " ++ t)) (sym same) (named z (subst (λ (t : List ℕ). 1 ≤ length t) (sym h.4.0) h.3.1))

zone_found : (end : End) (z text : List ℕ) → Says (zone end) z text → IsZoneText end z text
zone_found Line z text h = subst (λ (x : List ℕ). IsZoneText Line x text) (sym h.0) (refl, h.1)
zone_found Space z text h =
    subst (IsZoneText Space z) (sym h.5) (at_place (λ i word. (rest : List ℕ) → Then (IsText (text_form 1 LONGEST_NAME Line)) (λ t. IsOnly t) z rest → IsZoneText Space z (word ++ rest)) (codes "zone " ∷ []) (λ rest k. named_found z rest k, tt) h.0 h.1 h.3 h.2 h.4)

zone_only : (end : End) → SaysOnly (IsZoneText end) (zone end) (λ text. text)
zone_only end = record { holds = zone_found end }

-- ---- the laws

pub spec_said : (s : JobSpec) → SpecFits s → IsSaid spec s (spec_text s ++ 10 ∷ [])
spec_said s f =
    subst (IsSaid spec s) (spec_words (decimal s.group) (schedule_kind_text s.kind) (quoted s.schedule) (misfire_text s.misfire) (route_text s.route) (block_text s.block) (quoted s.handler) (quoted s.param) (decimal s.timeout) (decimal s.retries) (counted_numbers s.children) (end_byte (end_behind s.zone)) (zone_line s.zone) (zone_text s.zone) (zone_shift s.zone))
    (say_number 1 LAST_JOB_ID Space s.group f.group.least f.group.greatest
    (say_word (codes "NONE ") (codes "CRON " ∷ codes "FIX_RATE " ∷ []) schedule_kind_at (behind_kind s.group) s.kind (schedule_kind_text s.kind ++ 32 ∷ []) (schedule_kind_said s.kind)
    (say_text 0 LONGEST_SCHEDULE_GIVEN Space s.schedule f.schedule
    (say_word (codes "DO_NOTHING ") (codes "FIRE_ONCE_NOW " ∷ []) misfire_at (behind_misfire s.group s.kind s.schedule) s.misfire (misfire_text s.misfire ++ 32 ∷ []) (misfire_said s.misfire)
    (say_word (codes "FIRST ") route_words route_at (behind_route s.group s.kind s.schedule s.misfire) s.route (route_text s.route ++ 32 ∷ []) (route_said s.route)
    (say_word (codes "SERIAL_EXECUTION ") (codes "DISCARD_LATER " ∷ codes "COVER_EARLY " ∷ []) block_at (behind_block s.group s.kind s.schedule s.misfire s.route) s.block (block_text s.block ++ 32 ∷ []) (block_said s.block)
    (say_text 0 LONGEST_NAME Space s.handler f.work.handler (say_text 0 LONGEST_PARAM Space s.param f.work.param
    (say_below LAST_SECONDS Space s.timeout f.work.timeout (say_below LAST_RETRIES Space s.retries f.work.retries
    (say_ended MOST_CHILDREN 1 LAST_JOB_ID (end_behind s.zone) s.children f.work.count f.work.children
    (say_part (zone (end_behind s.zone)) (λ z. Gives (record s { zone = z })) (zone_said s.zone f.zone) say_end))))))))))))

-- the words of a spec, and the end of its line
abbrev pub IsSpecText : JobSpec → List ℕ → Type 0
IsSpecText s text = text ≡ spec_text s ++ 10 ∷ []

pub spec_only : SaysOnly IsSpecText spec (λ text. text)
spec_only =
    only_number 1 LAST_JOB_ID Space (λ g. only_schedule_kind (behind_kind g) (λ k. only_text 0 LONGEST_SCHEDULE_GIVEN Space (λ q. only_misfire (behind_misfire g k q) (λ m. only_route (behind_route g k q m) (λ r. only_block (behind_block g k q m r) (λ b.
    only_text 0 LONGEST_NAME Space (λ h. only_text 0 LONGEST_PARAM Space (λ p. only_number 0 LAST_SECONDS Space (λ t. only_number 0 LAST_RETRIES Space (λ n. only_ended MOST_CHILDREN 1 LAST_JOB_ID (λ end l.
    only_part (zone end) (λ z. Gives (job_of g k q m r b h p t n l z)) (zone_only end) (λ z first is.
    only_end
    (spec_words (decimal g) (schedule_kind_text k) (quoted q) (misfire_text m) (route_text r) (block_text b) (quoted h) (quoted p) (decimal t) (decimal n) (counted_numbers l) (end_byte end) first (zone_text z)
    (ap (λ (e : End). end_byte e ∷ first) is.0 ∙ ap (λ (x : List ℕ). end_byte (end_behind z) ∷ x) is.1 ∙ zone_shift z))))))))))))))
