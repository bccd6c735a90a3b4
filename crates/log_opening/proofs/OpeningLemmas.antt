-- Opening one log after another.
use Rattle.std.proofs.Common.{◌≡◌, ℕ, ◌+◌, ◌≤◌, List, [], ◌∷◌, ◌++◌, length, map, refl, sym, ap, subst, ◌∙◌, append_assoc, append-nil, length-append, arith}
use Rattle.std.proofs.lemmas.List.{map-append}
use Rattle.std.proofs.lemmas.List.FromFn.{map-range_with_len_more}
use Rattle.std.specs.List.{range_with_len}
use Rattle.job_events.specs.declared.opened.Opened.{Opened}
use Rattle.job_values.specs.declared.words.TriggerKind.{TriggerKind}
use Rattle.job_records.specs.declared.job.Job.{Job}
use Rattle.cluster_history.specs.Firings.{Shot, shot_for}
use Rattle.cluster_history.specs.Openings.{Pools, Placed, placed_from, pool_of, one_more, opened_of, pools_after}
use Rattle.log_opening.specs.declared.opening.Openings.{Openings}
use Rattle.log_opening.specs.Openings.{pools_then, OpensBehind, told_of, put_of, entering_of}

pub pools-append : (pools : Pools) (a b : List Shot) → pools_after pools (a ++ b) ≡ pools_after (pools_after pools a) b
pools-append pools [] b = refl
pools-append pools (shot ∷ a) b = pools-append (one_more (pool_of pools shot) pools) a b

pub placed-append : (last : ℕ) (pools : Pools) (a b : List Shot) → placed_from last pools (a ++ b) ≡ placed_from last pools a ++ placed_from (last + length a) (pools_after pools a) b
placed-append last pools [] b = let e : last ≡ last + 0 = omega arith in ap (λ n. placed_from n pools b) e
placed-append last pools (shot ∷ a) b =
    let e : (last + 1) + length a ≡ last + length (shot ∷ a) = omega arith in
    ap (λ xs. record { shot = shot; log = last + 1; pool = pool_of pools shot } ∷ xs) (placed-append (last + 1) (one_more (pool_of pools shot) pools) a b ∙ ap (λ n. placed_from (last + 1) (one_more (pool_of pools shot) pools) a ++ placed_from n (pools_after (one_more (pool_of pools shot) pools) a) b) e)

-- what is placed behind logs that were opened
placed-behind : (a b : List Shot) (x y : Openings) → OpensBehind a x y → placed_from x.last (pools_then x) (a ++ b) ≡ placed_from x.last (pools_then x) a ++ placed_from y.last (pools_then y) b
placed-behind a b x y first =
    placed-append x.last (pools_then x) a b
    ∙ ap (λ n. placed_from x.last (pools_then x) a ++ placed_from n (pools_after (pools_then x) a) b) (sym first.ids)
    ∙ ap (λ n. placed_from x.last (pools_then x) a ++ placed_from y.last n b) (sym first.pool)

mapped-behind : {Y : Type 0} (f : Placed → Y) (a b : List Shot) (x y : Openings) → OpensBehind a x y → map f (placed_from x.last (pools_then x) (a ++ b)) ≡ map f (placed_from x.last (pools_then x) a) ++ map f (placed_from y.last (pools_then y) b)
mapped-behind f a b x y first = ap (map f) (placed-behind a b x y first) ∙ map-append f (placed_from x.last (pools_then x) a) (placed_from y.last (pools_then y) b)

-- nothing is opened yet
pub opens-none : (x : Openings) → x.last ≤ 9223372036854775807 → OpensBehind [] x x
opens-none x room = record {
  ids = omega arith;
  room = room;
  puts = sym (append-nil x.puts.items);
  entering = sym (append-nil x.entering.items);
  pool = refl;
}

-- logs are opened, and others behind them
pub opens-both : (a b : List Shot) (x y z : Openings) → OpensBehind a x y → OpensBehind b y z → OpensBehind (a ++ b) x z
opens-both a b x y z first then_ = record {
  ids = omega (arith, first.ids, then_.ids, length-append a b);
  room = then_.room;
  puts = then_.puts ∙ ap (λ xs. xs ++ map put_of (placed_from y.last (pools_then y) b)) first.puts
      ∙ append_assoc x.puts.items (map put_of (placed_from x.last (pools_then x) a)) (map put_of (placed_from y.last (pools_then y) b))
      ∙ ap (λ xs. x.puts.items ++ xs) (sym (mapped-behind put_of a b x y first));
  entering = then_.entering ∙ ap (λ xs. xs ++ map entering_of (placed_from y.last (pools_then y) b)) first.entering
      ∙ append_assoc x.entering.items (map entering_of (placed_from x.last (pools_then x) a)) (map entering_of (placed_from y.last (pools_then y) b))
      ∙ ap (λ xs. x.entering.items ++ xs) (sym (mapped-behind entering_of a b x y first));
  pool = then_.pool ∙ ap (λ n. pools_after n b) first.pool ∙ sym (pools-append (pools_then x) a b);
}

-- what is told of them
pub told-both : (a b : List Shot) (x y : Openings) → OpensBehind a x y → told_of (a ++ b) x ≡ told_of a x ++ told_of b y
told-both a b x y first = mapped-behind opened_of a b x y first

-- the first shards of a firing
abbrev pub shots_up : Job → List ℕ → TriggerKind → ℕ → ℕ → ℕ → List Shot
shots_up row param kind time total index = map (λ i. shot_for row param kind time total i) (range_with_len 0 index)

pub shots-up_more : (row : Job) (param : List ℕ) (kind : TriggerKind) (time total index : ℕ) → shots_up row param kind time total (index + 1) ≡ shots_up row param kind time total index ++ shot_for row param kind time total index ∷ []
shots-up_more row param kind time total index = map-range_with_len_more (λ i. shot_for row param kind time total i) 0 index index (omega arith)

-- the logs of the first shards of a firing were opened, and are told
pub record OpensUp (row : Job) (param : List ℕ) (kind : TriggerKind) (time total index : ℕ) (before after : Openings) (told : List Opened) : Type 0 where
  pub opens : OpensBehind (shots_up row param kind time total index) before after
  pub tells : told ≡ told_of (shots_up row param kind time total index) before

pub opens-up_none : (row : Job) (param : List ℕ) (kind : TriggerKind) (time total : ℕ) (x : Openings) → x.last ≤ 9223372036854775807 → OpensUp row param kind time total 0 x x []
opens-up_none row param kind time total x room = record { opens = opens-none x room; tells = refl }

pub opens-up_more : (row : Job) (param : List ℕ) (kind : TriggerKind) (time total index : ℕ) (x y z : Openings) (told told' : List Opened) (one : Opened)
    → OpensUp row param kind time total index x y told → OpensBehind (shot_for row param kind time total index ∷ []) y z
    → one ≡ record { log = y.last + 1; pool = pool_of (pools_then y) (shot_for row param kind time total index) } → told' ≡ told ++ one ∷ []
    → OpensUp row param kind time total (index + 1) x z told'
opens-up_more row param kind time total index x y z told told' one so_far next is more =
    let old = shots_up row param kind time total index in
    let this = shot_for row param kind time total index ∷ [] in
    let step = shots-up_more row param kind time total index in
    record {
      opens = let P : List Shot → Type 0 = λ ss. OpensBehind ss x z in subst P (sym step) (opens-both old this x y z so_far.opens next);
      tells = more ∙ ap (λ xs. xs ++ one ∷ []) so_far.tells ∙ ap (λ o. told_of old x ++ o ∷ []) is
          ∙ sym (told-both old this x y so_far.opens) ∙ ap (λ ss. told_of ss x) (sym step);
    }
