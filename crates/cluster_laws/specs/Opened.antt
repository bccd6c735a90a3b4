-- What the replies tell of the logs that were opened.
use Rattle.std.specs.Prelude.{ℕ, ◌+◌, ◌==◌, List, [], ◌∷◌, map, filter, Option, Some, None, if◌then◌else◌}
use Rattle.std.specs.List.{flat_map}
use Rattle.job_values.specs.declared.words.PoolAnswer.{PoolAnswer}
use Rattle.job_values.specs.declared.words.PoolKind.{PoolKind}
use Rattle.job_events.specs.declared.opened.Opened.{Opened as OpenedLog}
use Rattle.job_events.specs.declared.cluster.ClusterEvent.TheVariants.{ScanStep, Turn, TriggerJob, Callback, Monitor}
use Rattle.job_events.specs.declared.cluster.ClusterReply.{ClusterReply}
use Rattle.job_events.specs.declared.cluster.ClusterReply.TheVariants.{Look, Fired, Opened, Settled, Marked}
use Rattle.cluster_history.specs.History.{History, Begin, After, places}
use Rattle.cluster_history.specs.Openings.{is_in}

-- the logs that a reply tells as opened, in order
abbrev pub told_opened : ClusterReply → List OpenedLog
told_opened (Look job case due next put opened) = opened
told_opened (Fired tickets) = flat_map (λ ticket. ticket.opened) tickets
told_opened (Opened opened) = opened
told_opened (Settled code children) = flat_map (λ child. child.opened) children
told_opened (Marked log opened) = opened
told_opened _ = []

-- those of them that it tells as put in a pool
abbrev pub told_in : PoolKind → List OpenedLog → List ℕ
told_in pool opened = map (λ one. one.log) (filter (λ one. is_in pool one.pool) opened)

-- the pool that is told of a log, if it is told
abbrev pub pool_told : ℕ → List OpenedLog → Option PoolAnswer
pool_told id [] = None
pool_told id (one ∷ others) = if one.log == id then Some one.pool else pool_told id others

-- the entry that opened a log: its place, its admin, and the pool that it tells
pub record OpenedAt : Type 0 where
  pub place : ℕ
  pub admin : ℕ
  pub pool : PoolAnswer

-- an entry that tells a log opened it
abbrev pub opened_at : ℕ → ℕ → Option PoolAnswer → Option OpenedAt → Option OpenedAt
opened_at place admin None earlier = earlier
opened_at place admin (Some pool) earlier = Some (record { place = place; admin = admin; pool = pool })

-- the entry that opened a log, if one did
abbrev pub opened_in : History → ℕ → Option OpenedAt
opened_in (Begin o) id = None
opened_in (After h (ScanStep admin) r) id = opened_at (places h + 1) admin (pool_told id (told_opened r)) (opened_in h id)
opened_in (After h (Turn admin at) r) id = opened_at (places h + 1) admin (pool_told id (told_opened r)) (opened_in h id)
opened_in (After h (TriggerJob admin at job param) r) id = opened_at (places h + 1) admin (pool_told id (told_opened r)) (opened_in h id)
opened_in (After h (Callback admin at item) r) id = opened_at (places h + 1) admin (pool_told id (told_opened r)) (opened_in h id)
opened_in (After h (Monitor admin at) r) id = opened_at (places h + 1) admin (pool_told id (told_opened r)) (opened_in h id)
opened_in (After h _ r) id = opened_in h id
