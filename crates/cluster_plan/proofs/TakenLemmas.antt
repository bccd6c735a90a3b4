-- The logs that were taken and not sent.
use Rattle.std.proofs.Common.{◌≡◌, ℕ, ◌<◌, ◌≤◌, List, [], Bool, true, false, not, eqb, Option, Some, None, refl, arith}
use Rattle.rising_rows.proofs.PutLemmas.{rises-put}
use Rattle.rising_rows.proofs.RowLemmas.{rises-filter, rises-from_rising, found-id, found-within}
use Rattle.job_events.specs.declared.cluster.ClusterEvent.TheVariants.{NodeStop, Take, Sent, Reopen}
use Rattle.job_records.specs.declared.log.Log.{Log}
use Rattle.job_records.specs.Rows.{RisesFrom}
use Rattle.cluster_history.specs.declared.taken.TakenLog.{TakenLog}
use Rattle.cluster_history.specs.History.{History, Begin, After, opening_of}
use Rattle.cluster_history.specs.Logs.{logs_of, last_log, queue_of}
use Rattle.cluster_history.specs.Settling.{log_with}
use Rattle.cluster_history.specs.Orders.{log_at, front_of, choice_of, taken_by, taken_with, taken_of}
use Rattle.cluster_history.specs.Runs.{OpensWell}
use Rattle.cluster_history.proofs.RowIds.{logs_rise}
use Rattle.std.specs.Prelude.{slice_get}

-- a log that a row says has an id above 0
row-above : (h : History) (id : ℕ) (log : Log) → OpensWell (opening_of h) → log_with id (logs_of h) ≡ Some log → 0 < log.id
row-above h id log well found =
    let within = found-within (λ (l : Log). l.id) 0 (last_log h) id (logs_of h) log (logs_rise h well) found in
    let same = found-id (λ (l : Log). l.id) id (logs_of h) log found in
    omega (arith, within.0, same)

rises-taken : (h : History) (admin word : ℕ) (front : Option ℕ) (taken : List TakenLog) → OpensWell (opening_of h) → RisesFrom (λ t. t.log) 0 taken → RisesFrom (λ t. t.log) 0 (taken_with h admin word (log_at (logs_of h) front) taken)
rises-taken h admin word None taken well rises = rises
rises-taken h admin word (Some id) taken well rises = by (log_with id (logs_of h)) refl
  where
    by : (o : Option Log) → log_with id (logs_of h) ≡ o → RisesFrom (λ t. t.log) 0 (taken_with h admin word o taken)
    by None found = rises
    by (Some log) found = rises-put (λ (t : TakenLog). t.log) 0 (taken_by admin (choice_of h admin word log) log) taken rises (row-above h id log well found)

-- their ids rise
pub taken-rises : (h : History) → OpensWell (opening_of h) → RisesFrom (λ t. t.log) 0 (taken_of h)
taken-rises (Begin o) well = tt
taken-rises (After h (NodeStop admin) r) well = rises-filter (λ (t : TakenLog). t.log) (λ t. not (eqb t.admin admin)) 0 (taken_of h) (taken-rises h well)
taken-rises (After h Reopen r) well = tt
taken-rises (After h (Take admin pool at word) r) well = rises-taken h admin word (slice_get (queue_of h admin pool) 0) (taken_of h) well (taken-rises h well)
taken-rises (After h (Sent log address code start end) r) well = rises-filter (λ (t : TakenLog). t.log) (λ t. not (eqb t.log log)) 0 (taken_of h) (taken-rises h well)
taken-rises (After h _ r) well = taken-rises h well
