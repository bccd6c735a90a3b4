-- The logs that a reply tells are those that its event opened.
use Rattle.std.proofs.Common.{◌≡◌, ℕ, ◌+◌, ◌<◌, ◌≤◌, ℤ, List, [], ◌∷◌, ◌++◌, Bool, true, false, cond, eqb, ltb, leb, nat_lt, ◌&&◌, is_some, Option, Some, None, length, map, filter, refl, sym, ap, ◌∙◌, arith}
use Rattle.std.specs.List.{flat_map, AllByRecursion, slice_get}
use Rattle.std.proofs.lemmas.List.{map-append}
use Rattle.std.proofs.lemmas.Bool.Decides.{nat_tests}
use Rattle.job_values.specs.declared.limits.TheConstants.{LAST_LOG_ID}
use Rattle.job_values.specs.declared.words.PoolAnswer.{PoolAnswer}
use Rattle.job_values.specs.declared.words.PoolKind.{PoolKind}
use Rattle.job_values.specs.declared.words.TriggerKind.TheVariants.{Parent}
use Rattle.job_values.specs.declared.run.CallbackItem.{CallbackItem}
use Rattle.job_events.specs.declared.cluster.ClusterEvent.TheVariants.{ScanStep, Turn, TriggerJob, Callback, Monitor}
use Rattle.job_events.specs.declared.cluster.ClusterReply.{ClusterReply}
use Rattle.job_events.specs.declared.cluster.ClusterReply.TheVariants as reply
use Rattle.job_events.specs.declared.cluster.ClusterRefusal.TheVariants as refusal
use Rattle.job_events.specs.declared.opened.FiredTicket.{FiredTicket}
use Rattle.job_events.specs.declared.opened.FiredChild.{FiredChild}
use Rattle.job_records.specs.declared.group.Group.{Group}
use Rattle.job_records.specs.declared.job.Job.{Job}
use Rattle.job_records.specs.declared.log.Log.{Log}
use Rattle.cluster_history.specs.declared.scan.Scan.{Scan}
use Rattle.cluster_history.specs.declared.scan.PageEntry.{PageEntry}
use Rattle.cluster_history.specs.History.{History, Begin, After, places, is_refusal}
use Rattle.cluster_history.specs.Nodes.{runs}
use Rattle.cluster_history.specs.Groups.{groups_of}
use Rattle.cluster_history.specs.Looks.{Looked, job_with}
use Rattle.cluster_history.specs.Jobs.{jobs_of, scan_of, look_of}
use Rattle.cluster_history.specs.Tickets.{Waiting, waiting, taken, second_of}
use Rattle.cluster_history.specs.Firings.{Shot, shots_if, shots_each, shots_settled, shots_for, shots_taken, shots_scanned, shots_stepped, shots_turned, shots_asked}
use Rattle.cluster_history.specs.Openings.{Pools, Placed, placed_from, pool_of, one_more, pools_after, opened_of, is_in, added_to}
use Rattle.cluster_history.specs.Settling.{log_with, is_positive, is_settled, children_of, first_failed}
use Rattle.cluster_history.specs.Logs.{is_behind, opener_after, opener_of, logs_of, last_log, pools_of, placed_at, shots_called, shots_watched}
use Rattle.cluster_history.specs.Replies.{if_running, entry_reply, step_reply, fire_reply, fired_from, children_from, settle_reply, mark_reply, refused}
use Rattle.cluster_history.specs.Runs.{IsAnswered}
use Rattle.cluster_history.proofs.RowIds.{placed-append}
use Rattle.cluster_laws.specs.Opened.{told_opened, told_in, pool_told, OpenedAt, opened_at, opened_in}

-- the logs of a turn, ticket by ticket
fired-opened : (groups : List Group) (jobs : List Job) (at last : ℕ) (pools : Pools) (ones : List Waiting)
    → flat_map (λ (ticket : FiredTicket). ticket.opened) (fired_from groups jobs at last pools ones) ≡ map opened_of (placed_from last pools (shots_for groups jobs at ones))
fired-opened groups jobs at last pools [] = refl
fired-opened groups jobs at last pools (one ∷ ones) =
    ap (λ more. map opened_of (placed_from last pools (shots_taken groups jobs at one)) ++ more)
    (fired-opened groups jobs at (last + length (shots_taken groups jobs at one)) (pools_after pools (shots_taken groups jobs at one)) ones)
    ∙ sym (map-append opened_of (placed_from last pools (shots_taken groups jobs at one)) (placed_from (last + length (shots_taken groups jobs at one)) (pools_after pools (shots_taken groups jobs at one)) (shots_for groups jobs at ones)))
    ∙ ap (map opened_of) (sym (placed-append last pools (shots_taken groups jobs at one) (shots_for groups jobs at ones)))

-- a reply tells these
abbrev pub Tells : ClusterReply → List Placed → Type 0
Tells r placed = told_opened r ≡ map opened_of placed

-- a step
look-tells : (spent : Bool) (last : ℕ) (pools : Pools) (shots : List Shot) (job : ℕ) (look : Looked) (r answer : ClusterReply) → told_opened answer ≡ map opened_of (placed_from last pools shots)
    → r ≡ cond spent (refused refusal.IdsSpent) answer → is_refusal r ≡ false → Tells r (placed_from last pools shots)
look-tells true last pools shots job look r answer tells is ok = (cc)
look-tells false last pools shots job look r answer tells is ok = ap told_opened is ∙ tells

entry-tells : (last : ℕ) (pools : Pools) (shots : List Shot) (look : Option Looked) (entry : Option PageEntry) (r : ClusterReply) → (look ≡ None → shots ≡ [])
    → r ≡ entry_reply last pools shots look entry → is_refusal r ≡ false → Tells r (placed_from last pools shots)
entry-tells last pools shots look None r none is ok = (cc)
entry-tells last pools shots None (Some entry) r none is ok = ap told_opened is ∙ sym (ap (λ (ss : List Shot). map opened_of (placed_from last pools ss)) (none refl))
entry-tells last pools shots (Some look) (Some entry) r none is ok =
    look-tells (nat_lt LAST_LOG_ID (last + length shots)) last pools shots entry.job look r
    (reply.Look entry.job look.decision.case look.due look.decision.next look.decision.put (map opened_of (placed_from last pools shots))) refl is ok

own-tells : (own : Bool) (last : ℕ) (pools : Pools) (shots : List Shot) (look : Option Looked) (entry : Option PageEntry) (r : ClusterReply) → (look ≡ None → shots ≡ [])
    → r ≡ cond own (entry_reply last pools shots look entry) (refused refusal.NotScanning) → is_refusal r ≡ false → Tells r (placed_from last pools shots)
own-tells true last pools shots look entry r none is ok = entry-tells last pools shots look entry r none is ok
own-tells false last pools shots look entry r none is ok = (cc)

step-tells_by : (b : Bool) (admin last : ℕ) (pools : Pools) (shots : List Shot) (look : Option Looked) (scan : Option Scan) (r : ClusterReply) → (look ≡ None → shots ≡ [])
    → r ≡ if_running b admin (step_reply last pools shots look admin scan) → is_refusal r ≡ false → Tells r (placed_from last pools shots)
step-tells_by false admin last pools shots look scan r none is ok = (cc)
step-tells_by true admin last pools shots look None r none is ok = (cc)
step-tells_by true admin last pools shots look (Some scan) r none is ok =
    own-tells (eqb scan.owner admin) last pools shots look (slice_get scan.page scan.steps) r none is ok

no-look : (groups : List Group) (scan : Option Scan) (look : Option Looked) → look ≡ None → shots_scanned groups scan look ≡ []
no-look groups None look none = refl
no-look groups (Some scan) None none = refl
no-look groups (Some scan) (Some look) none = (cc)

pub step-tells : (h : History) (admin : ℕ) (r : ClusterReply) → IsAnswered (After h (ScanStep admin) r) → Tells r (placed_at h admin (shots_stepped h))
step-tells h admin r answered =
    step-tells_by (runs h admin) admin (last_log h) (pools_of h admin) (shots_stepped h) (look_of h) (scan_of h) r (no-look (groups_of h) (scan_of h) (look_of h)) answered.1 answered.2

-- a turn
turn-tells_by : (b spent : Bool) (admin : ℕ) (placed : List Placed) (tickets : List FiredTicket) (r : ClusterReply) → flat_map (λ (ticket : FiredTicket). ticket.opened) tickets ≡ map opened_of placed
    → r ≡ if_running b admin (cond spent (refused refusal.IdsSpent) (reply.Fired tickets)) → is_refusal r ≡ false → Tells r placed
turn-tells_by false spent admin placed tickets r tells is ok = (cc)
turn-tells_by true true admin placed tickets r tells is ok = (cc)
turn-tells_by true false admin placed tickets r tells is ok = ap told_opened is ∙ tells

pub turn-tells : (h : History) (admin at : ℕ) (r : ClusterReply) → IsAnswered (After h (Turn admin at) r) → Tells r (placed_at h admin (shots_turned h admin at))
turn-tells h admin at r answered =
    turn-tells_by (runs h admin) (nat_lt LAST_LOG_ID (last_log h + length (shots_turned h admin at))) admin (placed_at h admin (shots_turned h admin at))
    (fired_from (groups_of h) (jobs_of h) at (last_log h) (pools_of h admin) (taken admin (second_of at) (waiting h))) r
    (fired-opened (groups_of h) (jobs_of h) at (last_log h) (pools_of h admin) (taken admin (second_of at) (waiting h))) answered.1 answered.2

-- a firing by hand
fire-tells_by : (b spent : Bool) (admin : ℕ) (placed : List Placed) (r : ClusterReply) → r ≡ if_running b admin (cond spent (refused refusal.IdsSpent) (reply.Opened (map opened_of placed))) → is_refusal r ≡ false → Tells r placed
fire-tells_by false spent admin placed r is ok = (cc)
fire-tells_by true true admin placed r is ok = (cc)
fire-tells_by true false admin placed r is ok = ap told_opened is

row-tells : (b : Bool) (admin last : ℕ) (pools : Pools) (shots : List Shot) (row : Option Job) (r : ClusterReply) → r ≡ if_running b admin (fire_reply last pools shots row) → is_refusal r ≡ false → Tells r (placed_from last pools shots)
row-tells false admin last pools shots row r is ok = (cc)
row-tells true admin last pools shots None r is ok = (cc)
row-tells true admin last pools shots (Some row) r is ok = fire-tells_by true (nat_lt LAST_LOG_ID (last + length shots)) admin (placed_from last pools shots) r is ok

pub fire-tells : (h : History) (admin at job : ℕ) (param : Option (List ℕ)) (r : ClusterReply) → IsAnswered (After h (TriggerJob admin at job param) r) → Tells r (placed_at h admin (shots_asked h at job param))
fire-tells h admin at job param r answered =
    row-tells (runs h admin) admin (last_log h) (pools_of h admin) (shots_asked h at job param) (job_with job (jobs_of h)) r answered.1 answered.2

-- the logs of the children, child by child
children-opened : (groups : List Group) (jobs : List Job) (at last : ℕ) (pools : Pools) (ids : List ℕ)
    → flat_map (λ (child : FiredChild). child.opened) (children_from groups jobs at last pools ids) ≡ map opened_of (placed_from last pools (shots_each groups jobs Parent at ids))
children-opened groups jobs at last pools [] = refl
children-opened groups jobs at last pools (id ∷ ids) =
    let shots : List Shot = shots_if groups Parent at (job_with id jobs) in
    ap (λ more. map opened_of (placed_from last pools shots) ++ more) (children-opened groups jobs at (last + length shots) (pools_after pools shots) ids)
    ∙ sym (map-append opened_of (placed_from last pools shots) (placed_from (last + length shots) (pools_after pools shots) (shots_each groups jobs Parent at ids)))
    ∙ ap (map opened_of) (sym (placed-append last pools shots (shots_each groups jobs Parent at ids)))

-- a result
settled-tells : (settled spent : Bool) (kept code : ℤ) (placed : List Placed) (children : List FiredChild) (r : ClusterReply) → flat_map (λ (child : FiredChild). child.opened) children ≡ map opened_of placed
    → r ≡ cond settled (refused (refusal.Repeat kept)) (cond spent (refused refusal.IdsSpent) (reply.Settled code children)) → is_refusal r ≡ false → Tells r placed
settled-tells true spent kept code placed children r tells is ok = (cc)
settled-tells false true kept code placed children r tells is ok = (cc)
settled-tells false false kept code placed children r tells is ok = ap told_opened is ∙ tells

settle-tells : (groups : List Group) (jobs : List Job) (last : ℕ) (pools : Pools) (at : ℕ) (code : ℤ) (row : Option Log) (r : ClusterReply)
    → r ≡ settle_reply groups jobs last pools (shots_settled groups jobs at code row) at code row → is_refusal r ≡ false → Tells r (placed_from last pools (shots_settled groups jobs at code row))
settle-tells groups jobs last pools at code None r is ok = (cc)
settle-tells groups jobs last pools at code (Some log) r is ok =
    settled-tells (is_settled log) (nat_lt LAST_LOG_ID (last + length (shots_settled groups jobs at code (Some log)))) log.result_code code (placed_from last pools (shots_settled groups jobs at code (Some log)))
    (children_from groups jobs at last pools (children_of jobs code (Some log))) r (children-opened groups jobs at last pools (children_of jobs code (Some log))) is ok

call-tells_by : (b positive : Bool) (admin : ℕ) (answer r : ClusterReply) (placed : List Placed) → (r ≡ answer → is_refusal r ≡ false → Tells r placed)
    → r ≡ if_running b admin (cond positive answer (refused refusal.BadCode)) → is_refusal r ≡ false → Tells r placed
call-tells_by false positive admin answer r placed tells is ok = (cc)
call-tells_by true false admin answer r placed tells is ok = (cc)
call-tells_by true true admin answer r placed tells is ok = tells is ok

pub call-tells : (h : History) (admin at : ℕ) (item : CallbackItem) (r : ClusterReply) → IsAnswered (After h (Callback admin at item) r) → Tells r (placed_at h admin (shots_called h at item.code item.log))
call-tells h admin at item r answered =
    call-tells_by (runs h admin) (is_positive item.code) admin
    (settle_reply (groups_of h) (jobs_of h) (last_log h) (pools_of h admin) (shots_called h at item.code item.log) at item.code (log_with item.log (logs_of h))) r (placed_at h admin (shots_called h at item.code item.log))
    (settle-tells (groups_of h) (jobs_of h) (last_log h) (pools_of h admin) at item.code (log_with item.log (logs_of h)) r) answered.1 answered.2

-- a monitor
mark-tells_by : (spent : Bool) (log : ℕ) (placed : List Placed) (r : ClusterReply) → r ≡ cond spent (refused refusal.IdsSpent) (reply.Marked log (map opened_of placed)) → is_refusal r ≡ false → Tells r placed
mark-tells_by true log placed r is ok = (cc)
mark-tells_by false log placed r is ok = ap told_opened is

watch-tells_by : (b : Bool) (admin last : ℕ) (pools : Pools) (shots : List Shot) (log : Option Log) (r : ClusterReply) → r ≡ if_running b admin (mark_reply last pools shots log) → is_refusal r ≡ false → Tells r (placed_from last pools shots)
watch-tells_by false admin last pools shots log r is ok = (cc)
watch-tells_by true admin last pools shots None r is ok = (cc)
watch-tells_by true admin last pools shots (Some log) r is ok = mark-tells_by (nat_lt LAST_LOG_ID (last + length shots)) log.id (placed_from last pools shots) r is ok

pub watch-tells : (h : History) (admin at : ℕ) (r : ClusterReply) → IsAnswered (After h (Monitor admin at) r) → Tells r (placed_at h admin (shots_watched h at))
watch-tells h admin at r answered =
    watch-tells_by (runs h admin) admin (last_log h) (pools_of h admin) (shots_watched h at) (first_failed (logs_of h)) r answered.1 answered.2

-- a log is told where its id is one of the next ones
lower-same : (last id : ℕ) → eqb (last + 1) id ≡ false → (b c : Bool) → ltb (last + 1) id ≡ b → ltb last id ≡ c → b ≡ c
lower-same last id other true true p q = refl
lower-same last id other false false p q = refl
lower-same last id other true false p q = let above : last + 1 < id = grind (arith, nat_tests) in let below : id ≤ last = grind (arith, nat_tests) in let never : ⊥ = omega arith in absurd never
lower-same last id other false true p q =
    let above : last < id = grind (arith, nat_tests) in
    let below : id ≤ last + 1 = grind (arith, nat_tests) in
    let same : last + 1 ≡ id = omega arith in
    let test : eqb (last + 1) id ≡ true = grind (arith, nat_tests) in (cc)

behind-none : (last id : ℕ) → is_behind last 0 id ≡ false
behind-none last id = by (ltb last id) (leb id (last + 0)) refl refl
  where
    by : (b c : Bool) → ltb last id ≡ b → leb id (last + 0) ≡ c → (b && c) ≡ false
    by false c p q = refl
    by true false p q = refl
    by true true p q = let above : last < id = grind (arith, nat_tests) in let below : id ≤ last + 0 = grind (arith, nat_tests) in let never : ⊥ = omega arith in absurd never

behind-next : (last count id : ℕ) → eqb (last + 1) id ≡ true → is_behind last (count + 1) id ≡ true
behind-next last count id test =
    let same : last + 1 ≡ id = grind (arith, nat_tests) in
    let low : ltb last id ≡ true = grind (arith, nat_tests) in
    let high : leb id (last + (count + 1)) ≡ true = grind (arith, nat_tests) in
    ap (λ b. b && leb id (last + (count + 1))) low ∙ high

told-behind : (id last : ℕ) (pools : Pools) (shots : List Shot) → is_some (pool_told id (map opened_of (placed_from last pools shots))) ≡ is_behind last (length shots) id
told-behind id last pools [] = sym (behind-none last id)
told-behind id last pools (shot ∷ shots) = by (eqb (last + 1) id) refl (told-behind id (last + 1) (one_more (pool_of pools shot) pools) shots)
  where
    more : length shots + 1 ≡ length (shot ∷ shots)
    more = omega arith

    ends : (last + 1) + length shots ≡ last + length (shot ∷ shots)
    ends = omega arith

    by : (b : Bool) → eqb (last + 1) id ≡ b → is_some (pool_told id (map opened_of (placed_from (last + 1) (one_more (pool_of pools shot) pools) shots))) ≡ is_behind (last + 1) (length shots) id
        → is_some (cond b (Some (pool_of pools shot)) (pool_told id (map opened_of (placed_from (last + 1) (one_more (pool_of pools shot) pools) shots)))) ≡ is_behind last (length (shot ∷ shots)) id
    by true test rest = sym (behind-next last (length shots) id test) ∙ ap (λ n. is_behind last n id) more
    by false test rest =
        rest
        ∙ ap (λ b. b && leb id ((last + 1) + length shots)) (lower-same last id test (ltb (last + 1) id) (ltb last id) refl refl)
        ∙ ap (λ n. ltb last id && leb id n) ends

-- none up to the last one
pub told-none : (id last : ℕ) (pools : Pools) (shots : List Shot) → id ≤ last → pool_told id (map opened_of (placed_from last pools shots)) ≡ None
told-none id last pools [] low = refl
told-none id last pools (shot ∷ shots) low =
    let test : eqb (last + 1) id ≡ false = grind (arith, nat_tests) in
    ap (λ b. cond b (Some (pool_of pools shot)) (pool_told id (map opened_of (placed_from (last + 1) (one_more (pool_of pools shot) pools) shots)))) test
    ∙ told-none id (last + 1) (one_more (pool_of pools shot) pools) shots (omega arith)

-- and each of those that are opened, with its pool
placed-above : (low last : ℕ) (pools : Pools) (shots : List Shot) → low ≤ last → AllByRecursion (λ p. low < p.log) (placed_from last pools shots)
placed-above low last pools [] below = tt
placed-above low last pools (shot ∷ shots) below = (omega arith, placed-above low (last + 1) (one_more (pool_of pools shot) pools) shots (omega arith))

told-later : (id : ℕ) (pool : PoolAnswer) (others placed : List Placed) → AllByRecursion (λ p. id < p.log) placed
    → AllByRecursion (λ p. pool_told p.log (map opened_of others) ≡ Some p.pool) placed
    → AllByRecursion (λ p. cond (eqb id p.log) (Some pool) (pool_told p.log (map opened_of others)) ≡ Some p.pool) placed
told-later id pool others [] above told = tt
told-later id pool others (p ∷ placed) above told =
    let higher : id < p.log = above.0 in
    let test : eqb id p.log ≡ false = grind (arith, nat_tests) in
    (ap (λ b. cond b (Some pool) (pool_told p.log (map opened_of others))) test ∙ told.0, told-later id pool others placed above.1 told.1)

pub told-all : (last : ℕ) (pools : Pools) (shots : List Shot) → AllByRecursion (λ p. pool_told p.log (map opened_of (placed_from last pools shots)) ≡ Some p.pool) (placed_from last pools shots)
told-all last pools [] = tt
told-all last pools (shot ∷ shots) =
    let self : eqb (last + 1) (last + 1) ≡ true = grind (arith, nat_tests) in (
      ap (λ b. cond b (Some (pool_of pools shot)) (pool_told (last + 1) (map opened_of (placed_from (last + 1) (one_more (pool_of pools shot) pools) shots)))) self,
      told-later (last + 1) (pool_of pools shot) (placed_from (last + 1) (one_more (pool_of pools shot) pools) shots) (placed_from (last + 1) (one_more (pool_of pools shot) pools) shots)
          (placed-above (last + 1) (last + 1) (one_more (pool_of pools shot) pools) shots (omega arith)) (told-all (last + 1) (one_more (pool_of pools shot) pools) shots),
    )

-- the admin of the entry that opened a log
abbrev pub admin_at : Option OpenedAt → Option ℕ
admin_at None = None
admin_at (Some opened) = Some opened.admin

admin-told : (place admin : ℕ) (told : Option PoolAnswer) (earlier : Option OpenedAt) → admin_at (opened_at place admin told earlier) ≡ cond (is_some told) (Some admin) (admin_at earlier)
admin-told place admin None earlier = refl
admin-told place admin (Some pool) earlier = refl

opener-step : (h : History) (admin id : ℕ) (shots : List Shot) (r : ClusterReply) → Tells r (placed_at h admin shots) → opener_of h id ≡ admin_at (opened_in h id)
    → opener_after (last_log h) (length shots) admin id (opener_of h id) ≡ admin_at (opened_at (places h + 1) admin (pool_told id (told_opened r)) (opened_in h id))
opener-step h admin id shots r tells earlier =
    ap (λ b. cond b (Some admin) (opener_of h id)) (sym (told-behind id (last_log h) (pools_of h admin) shots))
    ∙ ap (λ opened. cond (is_some (pool_told id opened)) (Some admin) (opener_of h id)) (sym tells)
    ∙ ap (λ opener. cond (is_some (pool_told id (told_opened r))) (Some admin) opener) earlier
    ∙ sym (admin-told (places h + 1) admin (pool_told id (told_opened r)) (opened_in h id))

pub opener-told : (h : History) → IsAnswered h → (id : ℕ) → opener_of h id ≡ admin_at (opened_in h id)
opener-told (Begin o) answered id = refl
opener-told (After h (ScanStep admin) r) answered id = opener-step h admin id (shots_stepped h) r (step-tells h admin r answered) (opener-told h answered.0 id)
opener-told (After h (Turn admin at) r) answered id = opener-step h admin id (shots_turned h admin at) r (turn-tells h admin at r answered) (opener-told h answered.0 id)
opener-told (After h (TriggerJob admin at job param) r) answered id = opener-step h admin id (shots_asked h at job param) r (fire-tells h admin at job param r answered) (opener-told h answered.0 id)
opener-told (After h (Callback admin at item) r) answered id =
    opener-step h admin id (shots_called h at item.code item.log) r (call-tells h admin at item r answered) (opener-told h answered.0 id)
opener-told (After h (Monitor admin at) r) answered id = opener-step h admin id (shots_watched h at) r (watch-tells h admin at r answered) (opener-told h answered.0 id)
opener-told (After h _ r) answered id = opener-told h answered.0 id

-- the place of the entry that opened a log is not behind the last one
earlier-place : (place admin top : ℕ) (told : Option PoolAnswer) (earlier : Option OpenedAt) (opened : OpenedAt) → place ≤ top → ((one : OpenedAt) → earlier ≡ Some one → one.place ≤ top)
    → opened_at place admin told earlier ≡ Some opened → opened.place ≤ top
earlier-place place admin top None earlier opened here before is = before opened is
earlier-place place admin top (Some pool) earlier opened here before is = let same : place ≡ opened.place = (cc) in omega arith

pub opened-within : (h : History) (id : ℕ) (opened : OpenedAt) → opened_in h id ≡ Some opened → opened.place ≤ places h
opened-within (Begin o) id opened is = (cc)
opened-within (After h (ScanStep admin) r) id opened is =
    earlier-place (places h + 1) admin (places h + 1) (pool_told id (told_opened r)) (opened_in h id) opened (omega arith) (λ one e. omega (arith, opened-within h id one e)) is
opened-within (After h (Turn admin at) r) id opened is =
    earlier-place (places h + 1) admin (places h + 1) (pool_told id (told_opened r)) (opened_in h id) opened (omega arith) (λ one e. omega (arith, opened-within h id one e)) is
opened-within (After h (TriggerJob admin at job param) r) id opened is =
    earlier-place (places h + 1) admin (places h + 1) (pool_told id (told_opened r)) (opened_in h id) opened (omega arith) (λ one e. omega (arith, opened-within h id one e)) is
opened-within (After h (Callback admin at item) r) id opened is =
    earlier-place (places h + 1) admin (places h + 1) (pool_told id (told_opened r)) (opened_in h id) opened (omega arith) (λ one e. omega (arith, opened-within h id one e)) is
opened-within (After h (Monitor admin at) r) id opened is =
    earlier-place (places h + 1) admin (places h + 1) (pool_told id (told_opened r)) (opened_in h id) opened (omega arith) (λ one e. omega (arith, opened-within h id one e)) is
opened-within (After h _ r) id opened is = omega (arith, opened-within h id opened is)

-- the logs that go to a pool are those that are told so
pub added-told : (pool : PoolKind) (placed : List Placed) → added_to pool placed ≡ told_in pool (map opened_of placed)
added-told pool [] = refl
added-told pool (p ∷ placed) = by (is_in pool p.pool) (added-told pool placed)
  where
    by : (b : Bool) → added_to pool placed ≡ told_in pool (map opened_of placed)
        → map (λ (q : Placed). q.log) (cond b (p ∷ filter (λ q. is_in pool q.pool) placed) (filter (λ q. is_in pool q.pool) placed))
        ≡ map (λ one. one.log) (cond b (opened_of p ∷ filter (λ one. is_in pool one.pool) (map opened_of placed)) (filter (λ one. is_in pool one.pool) (map opened_of placed)))
    by true rest = ap (λ (ids : List ℕ). p.log ∷ ids) rest
    by false rest = rest
