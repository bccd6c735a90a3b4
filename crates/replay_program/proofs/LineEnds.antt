-- A line has its end at its end and nowhere else.
use Rattle.std.proofs.Common.{◌≡◌, ℕ, zero, suc, ◌+◌, ◌/◌, ◌%◌, ◌≤◌, Bool, true, false, cond, nat_eq, nat_lt, List, [], ◌∷◌, ◌++◌, length, refl, arith, codes, Option, Some, None, ℤ, pos, negsuc}
use Rattle.std.proofs.lemmas.Bool.{eqb-true, ltb-false}
use Rattle.std.specs.List.{flat_map}
use Rattle.std.specs.Fmt.{decimal, digits, digits_onto, digit_glyph}
use Rattle.job_values.specs.Words.{schedule_kind_text, misfire_text, route_text, block_text, group_kind_text, pool_kind_text}
use Rattle.job_values.specs.declared.words.ScheduleKind.{ScheduleKind}
use Rattle.job_values.specs.declared.words.ScheduleKind.TheVariants as kinds
use Rattle.job_values.specs.declared.words.Misfire.{Misfire}
use Rattle.job_values.specs.declared.words.Misfire.TheVariants as misfires
use Rattle.job_values.specs.declared.words.Route.{Route}
use Rattle.job_values.specs.declared.words.Route.TheVariants as routes
use Rattle.job_values.specs.declared.words.Block.{Block}
use Rattle.job_values.specs.declared.words.Block.TheVariants as blocks
use Rattle.job_values.specs.declared.words.GroupKind.{GroupKind}
use Rattle.job_values.specs.declared.words.GroupKind.TheVariants as group_kinds
use Rattle.job_values.specs.declared.words.PoolKind.{PoolKind}
use Rattle.job_values.specs.declared.words.PoolKind.TheVariants as pool_kinds
use Rattle.job_values.specs.declared.run.CallbackItem.{CallbackItem}
use Rattle.job_values.specs.declared.spec.JobSpec.{JobSpec}
use Rattle.job_events.specs.declared.cluster.ClusterEvent.{ClusterEvent}
use Rattle.job_events.specs.declared.cluster.ClusterEvent.TheVariants.{NodeStart, NodeStop, NodeAsk, AddGroup, SetGroup, AddJob, UpdateJob, StartJob, StopJob, RemoveJob, TriggerJob, ScanBegin, ScanStep, Turn, Take, Sent, Callback, Registry, RegistryRemove, Sweep, Monitor, Lost, Clean, ReadLog, Reopen}
use Rattle.line_grammar.specs.Texts.{escape, spelled, hex_digit}
use Rattle.line_grammar.specs.Writing.{quoted, optional_text, spaced_text, spaced_number, counted_texts, counted_numbers}
use Rattle.script_text.specs.Lines.{IsLine}
use Rattle.script_text.specs.Spelling.{event_words, spec_text, trigger_text, work_text, zone_text, spaced_code, item_text}
use Rattle.script_text.specs.Laws.{EachEventHasOneLine}
use Rattle.line_program.specs.Cuts.{is_open, IsLineEnd}
use Rattle.line_program.proofs.CutLemmas.{open_append}
use Rattle.line_program.proofs.LimitLemmas.{either_way}

not_end : (x : ℕ) → (x ≡ 10 → ⊥) → nat_eq x 10 ≡ false
not_end x never = either_way (nat_eq x 10) (λ e. never (eqb-true x 10 e))

open_one : (x : ℕ) (xs : List ℕ) → nat_eq x 10 ≡ false → is_open xs ≡ true → is_open (x ∷ xs) ≡ true
open_one x xs other one = rw other one

open_cond : (b : Bool) (xs ys : List ℕ) → is_open xs ≡ true → is_open ys ≡ true → is_open (cond b xs ys) ≡ true
open_cond true xs ys first second = first
open_cond false xs ys first second = second

glyph_other : (small : Bool) (d : ℕ) → nat_eq (cond small (48 + d) (87 + d)) 10 ≡ false
glyph_other true d = not_end (48 + d) (λ e. omega arith)
glyph_other false d = not_end (87 + d) (λ e. omega arith)

-- the digits of a number have no end of a line
digits_open : (k n : ℕ) (acc : List ℕ) → is_open acc ≡ true → is_open (digits_onto k 10 false n acc) ≡ true
digits_open zero n acc one = one
digits_open (suc k) n acc one =
    let next : is_open (digit_glyph false (n % 10) ∷ acc) ≡ true = open_one (digit_glyph false (n % 10)) acc (glyph_other (nat_lt (n % 10) 10) (n % 10)) one in
    open_cond (nat_eq (n / 10) 0) (digit_glyph false (n % 10) ∷ acc) (digits_onto k 10 false (n / 10) (digit_glyph false (n % 10) ∷ acc)) next
    (digits_open k (n / 10) (digit_glyph false (n % 10) ∷ acc) next)

decimal_open : (n : ℕ) → is_open (decimal n) ≡ true
unfolding digits
decimal_open n = digits_open 64 n [] refl

-- nor has a text as it is written
escape_cases : (quote slash low : Bool) (b : ℕ) → (low ≡ false → 32 ≤ b) →
    is_open (cond quote (92 ∷ 34 ∷ []) (cond slash (92 ∷ 92 ∷ []) (cond low (92 ∷ (48 + b / 16) ∷ hex_digit (b % 16) ∷ []) (b ∷ [])))) ≡ true
escape_cases true slash low b high = refl
escape_cases false true low b high = refl
escape_cases false false true b high =
    open_one (48 + b / 16) (hex_digit (b % 16) ∷ []) (not_end (48 + b / 16) (λ e. omega arith)) (open_one (hex_digit (b % 16)) [] (glyph_other (nat_lt (b % 16) 10) (b % 16)) refl)
escape_cases false false false b high = let least = high refl in open_one b [] (not_end b (λ e. omega (arith, least))) refl

escape_open : (b : ℕ) → is_open (escape b) ≡ true
escape_open b = escape_cases (nat_eq b 34) (nat_eq b 92) (nat_lt b 32) b (ltb-false b 32)

spelled_open : (text : List ℕ) → is_open (spelled text) ≡ true
spelled_open [] = refl
spelled_open (b ∷ text) = open_append (escape b) (spelled text) (escape_open b) (spelled_open text)

quoted_open : (text : List ℕ) → is_open (quoted text) ≡ true
quoted_open text = open_append (spelled text) (34 ∷ []) (spelled_open text) refl

texts_open : (texts : List (List ℕ)) → is_open (flat_map spaced_text texts) ≡ true
texts_open [] = refl
texts_open (text ∷ texts) = open_append (spaced_text text) (flat_map spaced_text texts) (quoted_open text) (texts_open texts)

numbers_open : (numbers : List ℕ) → is_open (flat_map spaced_number numbers) ≡ true
numbers_open [] = refl
numbers_open (n ∷ numbers) = open_append (spaced_number n) (flat_map spaced_number numbers) (decimal_open n) (numbers_open numbers)

kind_open : (k : ScheduleKind) → is_open (32 ∷ schedule_kind_text k) ≡ true
kind_open kinds.Never = refl
kind_open kinds.Cron = refl
kind_open kinds.FixRate = refl

misfire_open : (m : Misfire) → is_open (32 ∷ misfire_text m) ≡ true
misfire_open misfires.DoNothing = refl
misfire_open misfires.FireOnceNow = refl

route_open : (r : Route) → is_open (32 ∷ route_text r) ≡ true
route_open routes.First = refl
route_open routes.Last = refl
route_open routes.Round = refl
route_open routes.Random = refl
route_open routes.ConsistentHash = refl
route_open routes.LeastFrequentlyUsed = refl
route_open routes.LeastRecentlyUsed = refl
route_open routes.Failover = refl
route_open routes.Busyover = refl
route_open routes.ShardingBroadcast = refl

block_open : (b : Block) → is_open (32 ∷ block_text b) ≡ true
block_open blocks.SerialExecution = refl
block_open blocks.DiscardLater = refl
block_open blocks.CoverEarly = refl

group_kind_open : (k : GroupKind) → is_open (32 ∷ group_kind_text k) ≡ true
group_kind_open group_kinds.Auto = refl
group_kind_open group_kinds.Manual = refl

pool_kind_open : (k : PoolKind) → is_open (32 ∷ pool_kind_text k) ≡ true
pool_kind_open pool_kinds.Fast = refl
pool_kind_open pool_kinds.Slow = refl

code_open : (code : ℤ) → is_open (spaced_code code) ≡ true
code_open (pos n) = decimal_open n
code_open (negsuc n) = decimal_open (suc n)

-- five pieces without an end of a line
five : (a b c d e : List ℕ) → is_open a ≡ true → is_open b ≡ true → is_open c ≡ true → is_open d ≡ true → is_open e ≡ true →
    is_open (a ++ b ++ c ++ d ++ e) ≡ true
five a b c d e p q r s t = open_append (a ++ b ++ c ++ d) e (open_append (a ++ b ++ c) d (open_append (a ++ b) c (open_append a b p q) r) s) t

zone_open : (zone : List ℕ) → is_open (zone_text zone) ≡ true
zone_open [] = refl
zone_open (b ∷ zone) = open_append (codes " zone ") (quoted (b ∷ zone)) refl (quoted_open (b ∷ zone))

words_of_spec_open : (s : JobSpec) → is_open (trigger_text s ++ work_text s) ≡ true
words_of_spec_open s =
    open_append (trigger_text s) (work_text s)
    (open_append (decimal s.group ++ 32 ∷ schedule_kind_text s.kind ++ spaced_text s.schedule ++ 32 ∷ misfire_text s.misfire ++ 32 ∷ route_text s.route) (32 ∷ block_text s.block)
    (five (decimal s.group) (32 ∷ schedule_kind_text s.kind) (spaced_text s.schedule) (32 ∷ misfire_text s.misfire) (32 ∷ route_text s.route)
    (decimal_open s.group) (kind_open s.kind) (quoted_open s.schedule) (misfire_open s.misfire) (route_open s.route))
    (block_open s.block))
    (five (spaced_text s.handler) (spaced_text s.param) (spaced_number s.timeout) (spaced_number s.retries) (32 ∷ counted_numbers s.children)
    (quoted_open s.handler) (quoted_open s.param) (decimal_open s.timeout) (decimal_open s.retries)
    (open_append (decimal (length s.children)) (flat_map spaced_number s.children) (decimal_open (length s.children)) (numbers_open s.children)))

spec_open : (s : JobSpec) → is_open (spec_text s) ≡ true
spec_open s = open_append (trigger_text s ++ work_text s) (zone_text s.zone) (words_of_spec_open s) (zone_open s.zone)

optional_open : (text : Option (List ℕ)) → is_open (optional_text text) ≡ true
optional_open None = refl
optional_open (Some text) = quoted_open text

counted_open : (texts : List (List ℕ)) → is_open (32 ∷ counted_texts texts) ≡ true
counted_open texts = open_append (decimal (length texts)) (flat_map spaced_text texts) (decimal_open (length texts)) (texts_open texts)

-- a word and two numbers, and the kind and the addresses of a group behind what names it
numbers_behind : (word : List ℕ) (first second : ℕ) → is_open word ≡ true → is_open (word ++ decimal first ++ spaced_number second) ≡ true
numbers_behind word first second one =
    open_append (word ++ decimal first) (spaced_number second) (open_append word (decimal first) one (decimal_open first)) (decimal_open second)

addresses_behind : (front : List ℕ) (kind : GroupKind) (addresses : List (List ℕ)) → is_open front ≡ true →
    is_open (front ++ 32 ∷ group_kind_text kind ++ 32 ∷ counted_texts addresses) ≡ true
addresses_behind front kind addresses one =
    open_append (front ++ 32 ∷ group_kind_text kind) (32 ∷ counted_texts addresses)
    (open_append front (32 ∷ group_kind_text kind) one (group_kind_open kind)) (counted_open addresses)

item_open : (item : CallbackItem) → is_open (item_text item) ≡ true
item_open item =
    open_append (spaced_number item.log ++ spaced_number item.log_moment ++ spaced_code item.code) (spaced_text item.msg)
    (open_append (spaced_number item.log ++ spaced_number item.log_moment) (spaced_code item.code)
    (open_append (spaced_number item.log) (spaced_number item.log_moment) (decimal_open item.log) (decimal_open item.log_moment)) (code_open item.code))
    (quoted_open item.msg)

words_open : (e : ClusterEvent) → is_open (event_words e) ≡ true
words_open (NodeStart a) = decimal_open a
words_open (NodeStop a) = decimal_open a
words_open (NodeAsk a) = decimal_open a
words_open (AddGroup app kind addresses) =
    addresses_behind (codes "addgroup " ++ quoted app) kind addresses (open_append (codes "addgroup ") (quoted app) refl (quoted_open app))
words_open (SetGroup group kind addresses) =
    addresses_behind (codes "setgroup " ++ decimal group) kind addresses (open_append (codes "setgroup ") (decimal group) refl (decimal_open group))
words_open (AddJob s) = spec_open s
words_open (UpdateJob at job s) =
    open_append (codes "setjob " ++ decimal at ++ spaced_number job) (32 ∷ spec_text s) (numbers_behind (codes "setjob ") at job refl) (spec_open s)
words_open (StartJob at job) = numbers_behind (codes "startjob ") at job refl
words_open (StopJob job) = decimal_open job
words_open (RemoveJob job) = decimal_open job
words_open (TriggerJob a at job own) =
    open_append (codes "fire " ++ decimal a ++ spaced_number at ++ spaced_number job) (32 ∷ optional_text own)
    (open_append (codes "fire " ++ decimal a ++ spaced_number at) (spaced_number job) (numbers_behind (codes "fire ") a at refl) (decimal_open job))
    (optional_open own)
words_open (ScanBegin a at) = numbers_behind (codes "scan ") a at refl
words_open (ScanStep a) = decimal_open a
words_open (Turn a at) = numbers_behind (codes "turn ") a at refl
words_open (Take a pool at w) = five (codes "take ") (decimal a) (32 ∷ pool_kind_text pool) (spaced_number at) (spaced_number w) refl (decimal_open a) (pool_kind_open pool) (decimal_open at) (decimal_open w)
words_open (Sent l to c start end) =
    open_append (codes "sent " ++ decimal l ++ 32 ∷ optional_text to ++ spaced_code c ++ spaced_number start) (spaced_number end)
    (five (codes "sent ") (decimal l) (32 ∷ optional_text to) (spaced_code c) (spaced_number start) refl (decimal_open l) (optional_open to) (code_open c) (decimal_open start)) (decimal_open end)
words_open (Callback a at item) = open_append (codes "back " ++ decimal a ++ spaced_number at) (item_text item) (numbers_behind (codes "back ") a at refl) (item_open item)
words_open (Registry at group key value) =
    five (codes "reg ") (decimal at) (spaced_text group) (spaced_text key) (spaced_text value) refl (decimal_open at) (quoted_open group) (quoted_open key) (quoted_open value)
words_open (RegistryRemove group key value) =
    open_append (codes "unreg " ++ quoted group ++ spaced_text key) (spaced_text value)
    (open_append (codes "unreg " ++ quoted group) (spaced_text key) (open_append (codes "unreg ") (quoted group) refl (quoted_open group)) (quoted_open key)) (quoted_open value)
words_open (Sweep at) = decimal_open at
words_open (Monitor a at) = numbers_behind (codes "monitor ") a at refl
words_open (Lost at) = decimal_open at
words_open (Clean at) = decimal_open at
words_open (ReadLog l) = decimal_open l
words_open Reopen = refl

-- a line of an event has one end of a line, at its end
pub line_end : EachEventHasOneLine → (e : ClusterEvent) (line : List ℕ) → IsLine e line → IsLineEnd line
line_end law e line says = record { front = event_words e; is = law.only e line says; one = words_open e }
