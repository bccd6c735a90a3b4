-- A taken log is sent.
use Rattle.std.proofs.Common.{◌≡◌, ℕ, ◌<◌, ℤ, List, Bool, true, false, not, cond, eqb, Option, Some, None, refl, sym, ap, ◌∙◌, subst, arith, int_eq}
use Rattle.std.proofs.lemmas.Bool.Decides.{Decides-int_eq}
use Rattle.job_values.specs.declared.limits.TheConstants.{ADMINS, SUCCESS}
use Rattle.job_events.specs.declared.cluster.ClusterEvent.TheVariants.{Sent}
use Rattle.job_events.specs.declared.cluster.ClusterReply.{ClusterReply}
use Rattle.job_events.specs.declared.cluster.ClusterReply.TheVariants.{Done}
use Rattle.job_events.specs.declared.cluster.ClusterRefusal.TheVariants.{BadCode, AlreadySent, WrongAddress}
use Rattle.job_records.specs.declared.log.Log.{Log}
use Rattle.job_records.specs.Changes.{put_row, without}
use Rattle.job_records.specs.Rules.{KeepsRules, HasAddress}
use Rattle.job_records.specs.Tables.{Tables}
use Rattle.job_records.proofs.Keeping.{keeps_log}
use Rattle.job_records.proofs.RowLemmas.{rises-from_rising}
use Rattle.cluster_history.specs.declared.taken.TakenLog.{TakenLog}
use Rattle.cluster_history.specs.History.{History, After, accepted}
use Rattle.cluster_history.specs.Settling.{log_with, log_changed, is_unsent, is_positive, sent_log}
use Rattle.cluster_history.specs.Logs.{logs_of, opener_of, is_own, queue_of}
use Rattle.cluster_history.specs.Orders.{taken_of, taken_log}
use Rattle.cluster_history.specs.Replies.{refused, if_positive, sent_reply, taken_reply, given_reply, reply_after}
use Rattle.cluster_history.proofs.Balance.{taken_owner}
use Rattle.cluster_history.proofs.Stops.{openers_low}
use Rattle.job_values.specs.declared.words.PoolKind.TheVariants.{Fast as FastPool, Slow as SlowPool}
use Rattle.cluster_plan.specs.Nodes.{NodeKept, after_sending}
use Rattle.cluster_plan.specs.Kept.{Kept}
use Rattle.cluster_plan.specs.Commits.{with_node}
use Rattle.cluster_plan.specs.Plans.{IsPlanned}
use Rattle.cluster_plan.specs.Stands.{Stands, Keeps, counted_behind, counts_of, node_of}
use Rattle.cluster_plan.proofs.AdminLemmas.{same-admin, other-admin}
use Rattle.cluster_plan.proofs.PlanLemmas.{planned}
use Rattle.cluster_plan.proofs.PutLemmas.{found-id, found-within, put-changed}
use Rattle.cluster_plan.proofs.StandsLemmas.{nodes-changed}
use Rattle.send_plans.specs.Sendings.{is_given, sending}

-- the row and the taken log of a history that is stood for
row-stands : (kept : Kept) (h : History) (log : ℕ) (o : Option Log) → log_with log kept.tables.logs ≡ o → Stands kept h → log_with log (logs_of h) ≡ o
row-stands kept h log o found s = ap (λ (t : Tables). log_with log t.logs) (sym s.keeps.tables) ∙ found

taken-stands : (kept : Kept) (h : History) (log : ℕ) (o : Option TakenLog) → taken_log log kept.taken ≡ o → Stands kept h → taken_log log (taken_of h) ≡ o
taken-stands kept h log o found s = ap (taken_log log) (sym s.keeps.taken) ∙ found

-- the reply, by what is found
abbrev told : Option (List ℕ) → ℤ → Option TakenLog → Option Log → ClusterReply
told address code taken row = if_positive code (sent_reply address code taken row)

reply-found : (kept : Kept) (h : History) (log : ℕ) (address : Option (List ℕ)) (code : ℤ) (taken : Option TakenLog) (row : Option Log) (start end : ℕ) → taken_log log kept.taken ≡ taken → log_with log kept.tables.logs ≡ row → Stands kept h
    → reply_after h (Sent log address code start end) ≡ told address code taken row
reply-found kept h log address code taken row start end kept_taken kept_row s =
    ap (λ t. told address code t (log_with log (logs_of h))) (taken-stands kept h log taken kept_taken s) ∙ ap (told address code taken) (row-stands kept h log row kept_row s)

given-told : (address : Option (List ℕ)) (code : ℤ) (given : List (List ℕ)) → given_reply address code given ≡ cond (is_given address code given) Done (refused WrongAddress)
given-told None code given = by (int_eq code SUCCESS)
  where
    by : (b : Bool) → cond b (refused WrongAddress) Done ≡ cond (not b) Done (refused WrongAddress)
    by true = refl
    by false = refl
given-told (Some address) code given = refl

reply-given : (kept : Kept) (h : History) (log : ℕ) (address : Option (List ℕ)) (code : ℤ) (start end : ℕ) (row : Log) (taken : TakenLog) (given : Bool) → is_positive code ≡ true → log_with log kept.tables.logs ≡ Some row → is_unsent row ≡ true
    → taken_log log kept.taken ≡ Some taken → is_given address code taken.addresses ≡ given → Stands kept h
    → reply_after h (Sent log address code start end) ≡ cond given Done (refused WrongAddress)
reply-given kept h log address code start end row taken given positive found unsent took is s =
    reply-found kept h log address code (Some taken) (Some row) start end took found s
    ∙ ap (λ b. cond b (sent_reply address code (Some taken) (Some row)) (refused BadCode)) positive
    ∙ ap (λ b. cond b (taken_reply address code (Some taken)) (refused (AlreadySent row.trigger_code))) unsent
    ∙ given-told address code taken.addresses
    ∙ ap (λ b. cond b Done (refused WrongAddress)) is

-- a log that is sent with success has an address
sent-address : (address : Option (List ℕ)) (code : ℤ) (given : List (List ℕ)) (row : Log) → is_given address code given ≡ true → HasAddress (sent_log address code row)
sent-address (Some address) code given row is = λ success. refl
sent-address None code given row is = λ success. absurd (let yes : int_eq code SUCCESS ≡ true = (Decides-int_eq code SUCCESS).1 success in let no : not true ≡ true = sym (ap not yes) ∙ is in let never : ⊥ = cc no in never)

-- what is kept of an admin, by whether the log is its own
abbrev node_sent : History → ℕ → Option Log → ℕ → ℕ → Bool → NodeKept
node_sent h a row start end own = record (node_of h a) { pools = record { fast = queue_of h a FastPool; slow = queue_of h a SlowPool; counts = counted_behind own row start end (counts_of h a) } }

-- what stands after a sending
stands-sent : (kept : Kept) (h : History) (log : ℕ) (address : Option (List ℕ)) (code : ℤ) (start end : ℕ) (row : Log) (taken : TakenLog) (tables : Tables) → tables ≡ record kept.tables { logs = log_changed log (sent_log address code) kept.tables.logs }
    → log_with log kept.tables.logs ≡ Some row → taken_log log kept.taken ≡ Some taken → Stands kept h
    → Keeps (with_node taken.admin (after_sending (record { job = row.job; start = start; end = end })) (record kept { taken = without (λ t. t.log) log kept.taken; tables = tables })) (After h (Sent log address code start end) Done)
stands-sent kept h log address code start end row taken tables made found took s =
    let there : log_with log (logs_of h) ≡ Some row = row-stands kept h log (Some row) found s in
    let opener : opener_of h log ≡ Some taken.admin = taken_owner h s.opens s.answered log taken (taken-stands kept h log (Some taken) took s) in
    let below : taken.admin < ADMINS = openers_low h s.answered s.within log taken.admin opener in
    let after : History = After h (Sent log address code start end) Done in
    let own : (a : ℕ) (b : Bool) → eqb taken.admin a ≡ b → node_sent h a (Some row) start end b ≡ node_of after a =
    λ a b test.
    ap (node_sent h a (Some row) start end) (sym test ∙ ap (λ o. is_own o a) (sym opener))
    ∙ ap (λ o. node_sent h a o start end (is_own (opener_of h log) a)) (sym there) in
    record {
      settings = s.keeps.settings;
      tables = made ∙ ap (λ (t : Tables). record t { logs = log_changed log (sent_log address code) t.logs }) s.keeps.tables;
      scan = s.keeps.scan;
      taken = ap (without (λ (t : TakenLog). t.log) log) s.keeps.taken;
      nodes = nodes-changed kept h after taken.admin (after_sending (record { job = row.job; start = start; end = end })) below s
          (own taken.admin true (same-admin taken.admin))
          (λ a other. own a false (other-admin taken.admin a (λ e. other (sym e))));
    }

-- the sending of a taken log
pub planned-sent : (kept : Kept) (log : ℕ) (address : Option (List ℕ)) (code : ℤ) (start end : ℕ) (row : Log) (taken : TakenLog) → KeepsRules kept.tables → is_positive code ≡ true → log_with log kept.tables.logs ≡ Some row → is_unsent row ≡ true
    → taken_log log kept.taken ≡ Some taken → is_given address code taken.addresses ≡ true
    → IsPlanned kept (Sent log address code start end) (sending taken.admin (sent_log address code row) start end)
planned-sent kept log address code start end row taken rules positive found unsent took given =
    let sent : Log = sent_log address code row in
    let same : row.id ≡ log = found-id (λ (l : Log). l.id) log kept.tables.logs row found in
    let within = found-within (λ (l : Log). l.id) 0 kept.tables.last.log log kept.tables.logs row rules.logs.rising found in
    let rules_kept = keeps_log kept.tables sent rules (omega (arith, within.0, same)) (omega (arith, within.1, same)) (sent-address address code taken.addresses row given) in
    let put : put_row (λ (l : Log). l.id) (sent_log address code row) kept.tables.logs ≡ log_changed log (sent_log address code) kept.tables.logs =
    put-changed (λ (l : Log). l.id) (sent_log address code) 0 row (sent_log address code row) kept.tables.logs (rises-from_rising (λ (l : Log). l.id) 0 kept.tables.last.log kept.tables.logs rules.logs.rising) (subst (λ n. log_with n kept.tables.logs ≡ Some row) (sym same) found) refl
    ∙ ap (λ n. log_changed n (sent_log address code) kept.tables.logs) same in
    planned kept (Sent log address code start end) (sending taken.admin (sent_log address code row) start end) (rules_kept, tt) refl tt refl
    (λ h s. reply-given kept (accepted h) log address code start end row taken true positive found unsent took given s)
    (λ h s.
    let K : ℕ → Type 0 = λ id. Keeps (with_node taken.admin (after_sending (record { job = row.job; start = start; end = end })) (record kept { taken = without (λ t. t.log) id kept.taken; tables = record kept.tables { logs = put_row (λ l. l.id) (sent_log address code row) kept.tables.logs } })) (After h (Sent log address code start end) Done) in
    subst K (sym same) (stands-sent kept h log address code start end row taken _ (ap (λ ls. record kept.tables { logs = ls }) put) found took s))
