-- The indexes after changes of the rows.
use Rattle.std.proofs.Common.{◌≡◌, ℕ, ◌+◌, ◌<◌, ◌≤◌, List, [], ◌∷◌, Bool, true, false, cond, Option, Some, None, is_some, length, get_or, take, refl, sym, ap, ◌∙◌, arith}
use Rattle.std.specs.List.{filter, All}
use Rattle.std.specs.Option.{option_and_then}
use Rattle.std.proofs.lemmas.List.Elements.{All-tail}
use Rattle.rising_rows.specs.Rising.{row_with, put_row, without, without_all, RisesFrom}
use Rattle.rising_rows.proofs.PutLemmas.{rises-put}
use Rattle.rising_rows.proofs.RowLemmas.{found-id}
use Rattle.sorted_blocks.specs.declared.key.Key.{Key}
use Rattle.row_indexes.specs.Entries.{without_entry, passes, IsNamedById}
use Rattle.row_indexes.specs.Due.{due_moved}
use Rattle.row_indexes.specs.LogLists.{moved}
use Rattle.row_indexes.specs.Pages.{is_next_by}
use Rattle.row_indexes.proofs.EntryLemmas.{drop-keys}
use Rattle.row_indexes.proofs.DropLemmas.{keys-more, ids-more, ids-drop, undropped}
use Rattle.row_indexes.proofs.DueLemmas.{named-by_next, keys-put}
use Rattle.row_indexes.proofs.IdLemmas.{ids-put}
use Rattle.job_records.specs.declared.change.Change.{Change}
use Rattle.job_records.specs.declared.job.Job.{Job}
use Rattle.job_records.specs.declared.log.Log.{Log}
use Rattle.job_records.specs.DropBatches.{dropped_id}
use Rattle.job_records.specs.DueJobs.{next_of, due_of, due_entries}
use Rattle.job_records.specs.LogClasses.{log_ids}
use Rattle.job_records.specs.Rules.{RunsByNext}

named-due : IsNamedById (λ (job : Job). job.id) due_of
named-due = named-by_next (λ (job : Job). job.id) next_of

-- the due index after a job is put
pub due-put : (job : Job) (jobs : List Job) (keys new : List Key) (old now : Option ℕ) → RisesFrom (λ j. j.id) 0 jobs → 0 < job.id → keys ≡ due_entries jobs
    → old ≡ option_and_then next_of (row_with (λ j. j.id) job.id jobs) → now ≡ next_of job → new ≡ due_moved job.id old now keys → new ≡ due_entries (put_row (λ j. j.id) job jobs)
due-put job jobs keys new old now up above same was this is =
    is
    ∙ ap (λ (o : Option ℕ). due_moved job.id o now keys) was
    ∙ ap (λ (o : Option ℕ). due_moved job.id (option_and_then next_of (row_with (λ (j : Job). j.id) job.id jobs)) o keys) this
    ∙ ap (due_moved job.id (option_and_then next_of (row_with (λ (j : Job). j.id) job.id jobs)) (next_of job)) same
    ∙ sym (keys-put (λ (j : Job). j.id) next_of job jobs up above)

-- after a job is dropped
pub due-drop : (id : ℕ) (jobs : List Job) (keys new : List Key) → RisesFrom (λ j. j.id) 0 jobs → keys ≡ due_entries jobs
    → new ≡ without_entry (option_and_then due_of (row_with (λ j. j.id) id jobs)) keys → new ≡ due_entries (without (λ j. j.id) id jobs)
due-drop id jobs keys new up same is =
    is ∙ ap (without_entry (option_and_then due_of (row_with (λ (j : Job). j.id) id jobs))) same ∙ sym (drop-keys (λ (j : Job). j.id) due_of id jobs named-due up)

-- after no drops
pub due-first : (jobs : List Job) (drops : List Change) (keys : List Key) → keys ≡ due_entries jobs → keys ≡ due_entries (without_all (λ j. j.id) dropped_id (take 0 drops) jobs)
due-first jobs drops keys same = same ∙ sym (ap due_entries (undropped (λ (j : Job). j.id) dropped_id jobs))

-- and after one drop more
pub due-more : (drops : List Change) (at : ℕ) (drop : Change) (jobs : List Job) (keys new : List Key) → RisesFrom (λ j. j.id) 0 jobs → at < length drops → drop ≡ get_or drops at drop
    → keys ≡ due_entries (without_all (λ j. j.id) dropped_id (take at drops) jobs) → new ≡ without_entry (option_and_then due_of (row_with (λ j. j.id) (dropped_id drop) jobs)) keys
    → new ≡ due_entries (without_all (λ j. j.id) dropped_id (take (at + 1) drops) jobs)
due-more drops at drop jobs keys new up within here same is =
    is
    ∙ ap (without_entry (option_and_then due_of (row_with (λ (j : Job). j.id) (dropped_id drop) jobs))) same
    ∙ sym (keys-more (λ (j : Job). j.id) due_of dropped_id drops at drop jobs named-due up within here)

-- a list of logs after a log is put
pub ids-put_log : (test : Log → Bool) (log : Log) (logs : List Log) (ids new : List ℕ) (was now : Bool) → RisesFrom (λ l. l.id) 0 logs → 0 < log.id → ids ≡ log_ids test logs
    → was ≡ passes test (row_with (λ l. l.id) log.id logs) → now ≡ test log → new ≡ moved log.id was now ids → new ≡ log_ids test (put_row (λ l. l.id) log logs)
ids-put_log test log logs ids new was now up above same old this is =
    is
    ∙ ap (λ (b : Bool). moved log.id b now ids) old
    ∙ ap (λ (b : Bool). moved log.id (passes test (row_with (λ (l : Log). l.id) log.id logs)) b ids) this
    ∙ ap (moved log.id (passes test (row_with (λ (l : Log). l.id) log.id logs)) (test log)) same
    ∙ sym (ids-put (λ (l : Log). l.id) test log logs up (rises-put (λ (l : Log). l.id) 0 log logs up above) above)

-- what a log that is found is in
pub moved-found : (test : Log → Bool) (id : ℕ) (logs : List Log) (log : Log) (ids new : List ℕ) (was : Bool) → row_with (λ l. l.id) id logs ≡ Some log → was ≡ test log
    → new ≡ moved log.id was false ids → new ≡ moved id (passes test (row_with (λ l. l.id) id logs)) false ids
moved-found test id logs log ids new was found old is =
    is
    ∙ ap (λ (n : ℕ). moved n was false ids) (found-id (λ (l : Log). l.id) id logs log found)
    ∙ ap (λ (b : Bool). moved id b false ids) (old ∙ sym (ap (passes test) found))

-- after a log is dropped
pub ids-drop_log : (test : Log → Bool) (id : ℕ) (logs : List Log) (ids new : List ℕ) → RisesFrom (λ l. l.id) 0 logs → ids ≡ log_ids test logs
    → new ≡ moved id (passes test (row_with (λ l. l.id) id logs)) false ids → new ≡ log_ids test (without (λ l. l.id) id logs)
ids-drop_log test id logs ids new up same is =
    is ∙ ap (moved id (passes test (row_with (λ (l : Log). l.id) id logs)) false) same ∙ sym (ids-drop (λ (l : Log). l.id) test id logs up)

-- after no drops
pub ids-first : (test : Log → Bool) (logs : List Log) (drops : List Change) (ids : List ℕ) → ids ≡ log_ids test logs → ids ≡ log_ids test (without_all (λ l. l.id) dropped_id (take 0 drops) logs)
ids-first test logs drops ids same = same ∙ sym (ap (log_ids test) (undropped (λ (l : Log). l.id) dropped_id logs))

-- and after one drop more
pub ids-more_log : (test : Log → Bool) (drops : List Change) (at : ℕ) (drop : Change) (logs : List Log) (ids new : List ℕ) → RisesFrom (λ l. l.id) 0 logs → at < length drops → drop ≡ get_or drops at drop
    → ids ≡ log_ids test (without_all (λ l. l.id) dropped_id (take at drops) logs) → new ≡ moved (dropped_id drop) (passes test (row_with (λ l. l.id) (dropped_id drop) logs)) false ids
    → new ≡ log_ids test (without_all (λ l. l.id) dropped_id (take (at + 1) drops) logs)
ids-more_log test drops at drop logs ids new up within here same is =
    is
    ∙ ap (moved (dropped_id drop) (passes test (row_with (λ (l : Log). l.id) (dropped_id drop) logs)) false) same
    ∙ sym (ids-more (λ (l : Log). l.id) test dropped_id drops at drop logs up within here)

-- a job that keeps its rules runs exactly where it has a next time
next-same : (job : Job) → RunsByNext job → next_of job ≡ job.next
next-same job runs = by job.running job.next runs
  where
    by : (b : Bool) (o : Option ℕ) → b ≡ is_some o → cond b o None ≡ o
    by true o is = refl
    by false None is = refl
    by false (Some next) is = (cc)

-- so the jobs that are due are told by their next times
pub filter-next : (bound : ℕ) (jobs : List Job) → All RunsByNext jobs → filter (λ job. is_next_by bound (next_of job)) jobs ≡ filter (λ job. is_next_by bound job.next) jobs
filter-next bound [] all = refl
filter-next bound (job ∷ jobs) all =
    ap (λ (o : Option ℕ). cond (is_next_by bound o) (job ∷ filter (λ (j : Job). is_next_by bound (next_of j)) jobs) (filter (λ (j : Job). is_next_by bound (next_of j)) jobs)) (next-same job (all 0 job (omega arith)))
    ∙ ap (λ (rest : List Job). cond (is_next_by bound job.next) (job ∷ rest) rest) (filter-next bound jobs (All-tail RunsByNext job jobs all))
