-- The words of lines: which values they may have, and what follows.
use Rattle.std.specs.Prelude.{refl, ℕ, ◌==◌, if◌then◌else◌, List, [], ◌∷◌, Option, codes}
use Rattle.job_values.specs.declared.words.GroupKind.{GroupKind}
use Rattle.job_values.specs.declared.words.GroupKind.TheVariants.{Auto, Manual}
use Rattle.job_values.specs.declared.words.PoolKind.{PoolKind}
use Rattle.job_values.specs.declared.words.PoolKind.TheVariants.{Fast, Slow}
use Rattle.job_values.specs.declared.words.ScheduleKind.{ScheduleKind}
use Rattle.job_values.specs.declared.words.ScheduleKind.TheVariants.{Never, Cron, FixRate}
use Rattle.job_values.specs.declared.words.Misfire.{Misfire}
use Rattle.job_values.specs.declared.words.Misfire.TheVariants.{DoNothing, FireOnceNow}
use Rattle.job_values.specs.declared.words.Block.{Block}
use Rattle.job_values.specs.declared.words.Block.TheVariants.{SerialExecution, DiscardLater, CoverEarly}
use Rattle.job_values.specs.declared.words.Route.{Route}
use Rattle.job_values.specs.declared.words.Route.TheVariants.{First, Last, Round, Random, ConsistentHash, LeastFrequentlyUsed, LeastRecentlyUsed, Failover, Busyover, ShardingBroadcast}
use Rattle.line_grammar.specs.declared.ends.End.{End}
use Rattle.line_grammar.specs.Dashes.{number_form}
use Rattle.line_grammar.specs.Texts.{text_form}
use Rattle.line_grammar.specs.Grammar.{Grammar, Number, Text, Optional, Choice}
use Rattle.job_values.specs.declared.limits.TheConstants.{LAST_ADMIN, LAST_MOMENT, LAST_LOG_ID, LAST_LOG_MOMENT, LAST_JOB_ID, LONGEST_NAME, LONGEST_PARAM, LONGEST_RESULT}
use Rattle.script_text.specs.declared.limits.TheConstants.{LAST_WORD}

-- the number of an admin
abbrev pub admin : {E : Type 0} → End → (ℕ → Grammar E) → Grammar E
admin end next = Number (number_form 0 LAST_ADMIN end) refl next

-- a moment
abbrev pub moment : {E : Type 0} → End → (ℕ → Grammar E) → Grammar E
moment end next = Number (number_form 0 LAST_MOMENT end) refl next

-- a group's or a job's id
abbrev pub id : {E : Type 0} → End → (ℕ → Grammar E) → Grammar E
id end next = Number (number_form 1 LAST_JOB_ID end) refl next

-- a log's id
abbrev pub log : {E : Type 0} → End → (ℕ → Grammar E) → Grammar E
log end next = Number (number_form 1 LAST_LOG_ID end) refl next

-- the moment of a log as its executor was told it
abbrev pub log_moment : {E : Type 0} → End → (ℕ → Grammar E) → Grammar E
log_moment end next = Number (number_form 0 LAST_LOG_MOMENT end) refl next

-- the text of a result
abbrev pub result_text : {E : Type 0} → End → (List ℕ → Grammar E) → Grammar E
result_text end next = Text (text_form 0 LONGEST_RESULT end) refl next

-- the group, the app or the address of a registration
abbrev pub registry_text : {E : Type 0} → End → (List ℕ → Grammar E) → Grammar E
registry_text end next = Text (text_form 0 LONGEST_NAME end) refl next

-- the parameter of a firing by hand, or `-` for the job's own
abbrev pub param : {E : Type 0} → End → (Option (List ℕ) → Grammar E) → Grammar E
param end next = Optional (text_form 0 LONGEST_PARAM end) refl next

-- the address that a log was sent to, or `-` for none
abbrev pub address : {E : Type 0} → End → (Option (List ℕ) → Grammar E) → Grammar E
address end next = Optional (text_form 1 LONGEST_NAME end) refl next

-- a word for a random choice
abbrev pub choice_word : {E : Type 0} → End → (ℕ → Grammar E) → Grammar E
choice_word end next = Number (number_form 0 LAST_WORD end) refl next

-- a pool
abbrev pub pool_kind_at : ℕ → PoolKind
pool_kind_at i = if i == 0 then Fast else Slow

abbrev pub pool_kind : {E : Type 0} → (PoolKind → Grammar E) → Grammar E
pool_kind next = Choice (codes "fast ") (codes "slow " ∷ []) refl (λ i. next (pool_kind_at i))

-- who writes the addresses of a group
abbrev pub group_kind_at : ℕ → GroupKind
group_kind_at i = if i == 0 then Auto else Manual

abbrev pub group_kind : {E : Type 0} → (GroupKind → Grammar E) → Grammar E
group_kind next = Choice (codes "auto ") (codes "manual " ∷ []) refl (λ i. next (group_kind_at i))

-- a schedule kind
abbrev pub schedule_kind_at : ℕ → ScheduleKind
schedule_kind_at i = if i == 0 then Never else (if i == 1 then Cron else FixRate)

abbrev pub schedule_kind : {E : Type 0} → (ScheduleKind → Grammar E) → Grammar E
schedule_kind next = Choice (codes "NONE ") (codes "CRON " ∷ codes "FIX_RATE " ∷ []) refl (λ i. next (schedule_kind_at i))

abbrev pub misfire_at : ℕ → Misfire
misfire_at i = if i == 0 then DoNothing else FireOnceNow

abbrev pub misfire : {E : Type 0} → (Misfire → Grammar E) → Grammar E
misfire next = Choice (codes "DO_NOTHING ") (codes "FIRE_ONCE_NOW " ∷ []) refl (λ i. next (misfire_at i))

-- a route
abbrev pub route_at : ℕ → Route
route_at i =
    if i == 0 then First
    else (if i == 1 then Last
    else (if i == 2 then Round
    else (if i == 3 then Random
    else (if i == 4 then ConsistentHash
    else (if i == 5 then LeastFrequentlyUsed
    else (if i == 6 then LeastRecentlyUsed
    else (if i == 7 then Failover
    else (if i == 8 then Busyover
    else ShardingBroadcast))))))))

abbrev pub route_words : List (List ℕ)
route_words =
    codes "LAST " ∷ codes "ROUND " ∷ codes "RANDOM " ∷ codes "CONSISTENT_HASH " ∷ codes "LEAST_FREQUENTLY_USED "
    ∷ codes "LEAST_RECENTLY_USED " ∷ codes "FAILOVER " ∷ codes "BUSYOVER " ∷ codes "SHARDING_BROADCAST " ∷ []

abbrev pub route : {E : Type 0} → (Route → Grammar E) → Grammar E
route next = Choice (codes "FIRST ") route_words refl (λ i. next (route_at i))

abbrev pub block_at : ℕ → Block
block_at i = if i == 0 then SerialExecution else (if i == 1 then DiscardLater else CoverEarly)

abbrev pub block : {E : Type 0} → (Block → Grammar E) → Grammar E
block next = Choice (codes "SERIAL_EXECUTION ") (codes "DISCARD_LATER " ∷ codes "COVER_EARLY " ∷ []) refl (λ i. next (block_at i))
