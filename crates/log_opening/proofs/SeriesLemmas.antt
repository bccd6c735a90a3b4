-- Firings of several jobs, one after another.
use Rattle.std.proofs.Common.{◌≡◌, ℕ, zero, suc, ◌+◌, ◌<◌, ◌≤◌, List, [], ◌∷◌, ◌++◌, Bool, true, false, Some, length, map, get_or, take, refl, sym, ap, ◌∙◌, subst, append_assoc, append-nil, length-append, arith}
use Rattle.std.proofs.lemmas.List.{take_more}
use Rattle.job_values.specs.declared.words.TriggerKind.{TriggerKind}
use Rattle.job_events.specs.declared.opened.Opened.{Opened}
use Rattle.job_records.specs.declared.change.Change.{Change}
use Rattle.job_records.specs.declared.job.Job.{Job}
use Rattle.job_records.specs.Tables.{Tables}
use Rattle.cluster_history.specs.Groups.{group_with, addresses_in}
use Rattle.cluster_history.specs.Looks.{job_with}
use Rattle.cluster_history.specs.Firings.{shots_if, shots_by, shards}
use Rattle.cluster_history.specs.Openings.{Pools, placed_from, opened_of, pools_after}
use Rattle.log_opening.specs.declared.opening.Openings.{Openings}
use Rattle.log_opening.specs.Openings.{pools_then, OpensBehind, told_of, put_of, entering_of, opening_changes}
use Rattle.log_opening.specs.Series.{Series, shots_at, shots_all, told_all, FiresBehind, FiresAll, FiresSeries}
use Rattle.log_opening.proofs.FireLemmas.{count-shots}
use Rattle.log_opening.proofs.OpeningLemmas.{opens-both, pools-append}

-- what a present job is to open
pub shots-found : (t : Tables) (kind : TriggerKind) (at total job : ℕ) (row : Job) → job_with job t.jobs ≡ Some row → total ≡ shards row.spec.route (addresses_in (group_with row.spec.group t.groups)) → shots_if t.groups kind at (job_with job t.jobs) ≡ shots_by row row.spec.param kind at total
shots-found t kind at total job row found count = ap (λ r. shots_if t.groups kind at r) found ∙ ap (λ n. shots_by row row.spec.param kind at n) (sym count)

-- and how many that are
pub shots-many : (t : Tables) (kind : TriggerKind) (at total job : ℕ) (row : Job) → job_with job t.jobs ≡ Some row → total ≡ shards row.spec.route (addresses_in (group_with row.spec.group t.groups)) → length (shots_if t.groups kind at (job_with job t.jobs)) ≡ total
shots-many t kind at total job row found count = ap (λ r. length (shots_if t.groups kind at r)) found ∙ count-shots t.groups row.spec.param kind at row ∙ sym count

-- of one
pub shots-one : {X Y : Type 0} (series : Series X Y) (t : Tables) (x : X) → shots_all series t (x ∷ []) ≡ shots_at series t x
shots-one series t x = append-nil (shots_at series t x)

-- of some behind others
shots-append : {X Y : Type 0} (series : Series X Y) (t : Tables) (xs ys : List X) → shots_all series t (xs ++ ys) ≡ shots_all series t xs ++ shots_all series t ys
shots-append series t [] ys = refl
shots-append series t (x ∷ xs) ys =
    ap (λ ss. shots_at series t x ++ ss) (shots-append series t xs ys) ∙ sym (append_assoc (shots_at series t x) (shots_all series t xs) (shots_all series t ys))

-- what is told of them
told-append : {X Y : Type 0} (series : Series X Y) (t : Tables) (last : ℕ) (pools : Pools) (xs ys : List X)
    → told_all series t last pools (xs ++ ys) ≡ told_all series t last pools xs ++ told_all series t (last + length (shots_all series t xs)) (pools_after pools (shots_all series t xs)) ys
told-append series t last pools [] ys = let e : last ≡ last + 0 = omega arith in ap (λ n. told_all series t n pools ys) e
told-append series t last pools (x ∷ xs) ys =
    let e : (last + length (shots_at series t x)) + length (shots_all series t xs) ≡ last + length (shots_at series t x ++ shots_all series t xs) = omega (arith, length-append (shots_at series t x) (shots_all series t xs)) in
    ap (λ fs. series.tell x (map opened_of (placed_from last pools (shots_at series t x))) ∷ fs)
    (told-append series t (last + length (shots_at series t x)) (pools_after pools (shots_at series t x)) xs ys
    ∙ ap (λ n. told_all series t (last + length (shots_at series t x)) (pools_after pools (shots_at series t x)) xs ++ told_all series t n (pools_after (pools_after pools (shots_at series t x)) (shots_all series t xs)) ys) e
    ∙ ap (λ n. told_all series t (last + length (shots_at series t x)) (pools_after pools (shots_at series t x)) xs ++ told_all series t (last + length (shots_at series t x ++ shots_all series t xs)) n ys) (sym (pools-append pools (shots_at series t x) (shots_all series t xs))))

-- nothing fired yet
pub fires-none : {X Y : Type 0} (series : Series X Y) (t : Tables) (x : Openings) (told : List Y) → OpensBehind [] x x → FiresBehind series t [] x x told told
fires-none series t x told opens = record { opens = opens; tells = sym (append-nil told) }

-- one fires: its logs are opened, and it is told
pub fires-one : {X Y : Type 0} (series : Series X Y) (t : Tables) (one : X) (opened : List Opened) (x y : Openings) (told more : List Y) → OpensBehind (shots_at series t one) x y → opened ≡ told_of (shots_at series t one) x
    → more ≡ told ++ series.tell one opened ∷ [] → FiresBehind series t (one ∷ []) x y told more
fires-one series t one opened x y told more opens is says = record {
  opens = subst (λ ss. OpensBehind ss x y) (sym (shots-one series t one)) opens;
  tells = says ∙ ap (λ (os : List Opened). told ++ series.tell one os ∷ []) is;
}

-- some fire, and others behind them
pub fires-both : {X Y : Type 0} (series : Series X Y) (t : Tables) (xs ys : List X) (x y z : Openings) (told more all : List Y) → FiresBehind series t xs x y told more → FiresBehind series t ys y z more all → FiresBehind series t (xs ++ ys) x z told all
fires-both series t xs ys x y z told more all first then_ = record {
  opens = subst (λ ss. OpensBehind ss x z) (sym (shots-append series t xs ys)) (opens-both (shots_all series t xs) (shots_all series t ys) x y z first.opens then_.opens);
  tells = then_.tells ∙ ap (λ fs. fs ++ told_all series t y.last (pools_then y) ys) first.tells
      ∙ append_assoc told (told_all series t x.last (pools_then x) xs) (told_all series t y.last (pools_then y) ys)
      ∙ ap (λ n. told ++ (told_all series t x.last (pools_then x) xs ++ told_all series t n (pools_then y) ys)) first.opens.ids
      ∙ ap (λ n. told ++ (told_all series t x.last (pools_then x) xs ++ told_all series t (x.last + length (shots_all series t xs)) n ys)) first.opens.pool
      ∙ ap (λ fs. told ++ fs) (sym (told-append series t x.last (pools_then x) xs ys));
}

-- one more fires
pub fires-more : {X Y : Type 0} (series : Series X Y) (t : Tables) (xs : List X) (i : ℕ) (one : X) (x y z : Openings) (told more all : List Y) → i < length xs → one ≡ get_or xs i one
    → FiresBehind series t (take i xs) x y told more → FiresBehind series t (one ∷ []) y z more all → FiresBehind series t (take (i + 1) xs) x z told all
fires-more series t xs i one x y z told more all within is first then_ =
    subst (λ ts. FiresBehind series t ts x z told all) (sym (take_more xs i one within ∙ ap (λ o. take i xs ++ o ∷ []) (sym is)))
    (fires-both series t (take i xs) (one ∷ []) x y z told more all first then_)

-- no front of them opens more than all of them
pub shots-front : {X Y : Type 0} (series : Series X Y) (t : Tables) (xs : List X) (i : ℕ) (one : X) → i < length xs → one ≡ get_or xs i one
    → length (shots_all series t (take i xs)) + length (shots_all series t (one ∷ [])) ≤ length (shots_all series t xs)
shots-front series t [] i one within is = absurd (omega arith)
shots-front series t (first ∷ xs) zero one within is =
    omega (arith, length-append (shots_at series t first) (shots_all series t xs), ap length (shots-one series t one), ap (λ o. length (shots_at series t o)) is)
shots-front series t (first ∷ xs) (suc i) one within is =
    let rest : length (shots_all series t (take i xs)) + length (shots_all series t (one ∷ [])) ≤ length (shots_all series t xs) = shots-front series t xs i one (omega arith) is in
    omega (arith, length-append (shots_at series t first) (shots_all series t xs), length-append (shots_at series t first) (shots_all series t (take i xs)))

-- some and others behind them open as many as both
pub shots-both : {X Y : Type 0} (series : Series X Y) (t : Tables) (xs ys : List X) → length (shots_all series t (xs ++ ys)) ≡ length (shots_all series t xs) + length (shots_all series t ys)
shots-both series t xs ys = ap length (shots-append series t xs ys) ∙ length-append (shots_all series t xs) (shots_all series t ys)

-- after some that fired others fire, or need too many ids
pub fires-second : {X Y : Type 0} (series : Series X Y) (t : Tables) (xs ys : List X) (x y z : Openings) (told more all : List Y) (fits : Bool) → FiresBehind series t xs x y told more → FiresAll series t ys y z more all fits → FiresAll series t (xs ++ ys) x z told all fits
fires-second series t xs ys x y z told more all true first then_ = fires-both series t xs ys x y z told more all first then_
fires-second series t xs ys x y z told more all false first over = omega (arith, first.opens.ids, shots-both series t xs ys)

-- nothing is opened yet, from a last log id and pools on
pub record StartsAt (last : ℕ) (pools : Pools) (x : Openings) : Type 0 where
  pub ids : x.last ≡ last
  pub pool : pools_then x ≡ pools
  pub puts : x.puts.items ≡ []
  pub entering : x.entering.items ≡ []

-- those that fired one after another, where nothing was opened before, are such a series
pub series-made : {X Y : Type 0} (series : Series X Y) (t : Tables) (pools : Pools) (xs : List X) (x y : Openings) (told more : List Y) (changes : List Change) → StartsAt t.last.log pools x → told ≡ [] → FiresBehind series t xs x y told more
    → changes ≡ opening_changes t.last y.last y.puts.items → FiresSeries series t pools xs changes y.entering.items more
series-made series t pools xs x y told more changes none untold fires made =
    let placed : placed_from x.last (pools_then x) (shots_all series t xs) ≡ placed_from t.last.log pools (shots_all series t xs) =
    ap (λ n. placed_from n (pools_then x) (shots_all series t xs)) none.ids ∙ ap (λ n. placed_from t.last.log n (shots_all series t xs)) none.pool in
    record {
      ids = omega (arith, fires.opens.ids, fires.opens.room, none.ids);
      rows = made ∙ ap (λ n. opening_changes t.last n y.puts.items) (fires.opens.ids ∙ ap (λ n. n + length (shots_all series t xs)) none.ids)
          ∙ ap (λ ps. opening_changes t.last (t.last.log + length (shots_all series t xs)) ps)
          (fires.opens.puts ∙ ap (λ ps. ps ++ map put_of (placed_from x.last (pools_then x) (shots_all series t xs))) none.puts ∙ ap (map put_of) placed);
      enters = fires.opens.entering ∙ ap (λ es. es ++ map entering_of (placed_from x.last (pools_then x) (shots_all series t xs))) none.entering ∙ ap (map entering_of) placed;
      tells = fires.tells ∙ ap (λ fs. fs ++ told_all series t x.last (pools_then x) xs) untold
          ∙ ap (λ n. told_all series t n (pools_then x) xs) none.ids ∙ ap (λ n. told_all series t t.last.log n xs) none.pool;
    }
