use Rattle.std.proofs.Common.{◌≡◌, ◌∙◌, ℕ, ◌∷◌, [], List, ap, rules, subst, sym, arith}
use Rattle.std.proofs.lemmas.List.FromFn.{length-map-range_with_len}
use Rattle.job_events.specs.declared.opened.Opened.{Opened}
use Rattle.cluster_history.specs.Firings.{shot_for}
use Rattle.log_opening.specs.Openings.{OpensBehind, told_of}
use Rattle.log_opening.proofs.OpeningLemmas.{opens-up_none, opens-up_more, shots_up, OpensUp}
use Rattle.log_opening.proofs.opening.open_logs.Goals as goal

pub loop-index-init : goal.loop-index-init
loop-index-init c =
    let P : List Opened → Type 0 = λ told. OpensUp c.args.row.now c.args.param.now c.args.kind c.args.time c.args.total 0 c.args.openings.now c.args.openings.now told in
    subst P (sym c.new-opened.ensures.items) (opens-up_none _ _ _ _ _ _ (omega arith))

pub open_log-requires : goal.open_log-requires
open_log-requires c =
    omega (arith, c.loop-index.invariant.opens.ids, length-map-range_with_len (λ i. shot_for c.args.row.now c.args.param.now c.args.kind c.args.time c.args.total i) 0 c.loop-index.index)

pub loop-index-preserved : goal.loop-index-preserved
loop-index-preserved c =
    let total : c.unwrap-total_no.result ≡ c.args.total = search rules in
    let index : c.unwrap.result ≡ c.loop-index.index = search rules in
    let P : ℕ → Type 0 = λ n. OpensBehind (shot_for c.args.row.now c.args.param.now c.args.kind c.args.time n c.unwrap.result ∷ []) c.loop-index.openings c.open_log.new.openings in
    let Q : ℕ → Type 0 = λ n. OpensBehind (shot_for c.args.row.now c.args.param.now c.args.kind c.args.time c.args.total n ∷ []) c.loop-index.openings c.open_log.new.openings in
    opens-up_more _ _ _ _ _ _ _ _ _ _ _ c.in_ok-one.one c.loop-index.invariant (subst Q index (subst P total c.in_ok-one.ensures.opens)) c.in_ok-one.ensures.opened c.in_ok-push_row.ensures.ok

pub returns-clause-opened : goal.returns-clause-opened
returns-clause-opened c =
    let end : c.loop-index.index ≡ c.args.total = omega arith in
    c.of.ensures ∙ c.loop-index.invariant.tells ∙ ap (λ n. told_of (shots_up c.args.row.now c.args.param.now c.args.kind c.args.time c.args.total n) c.args.openings.now) end

pub returns-clause-opens : goal.returns-clause-opens
returns-clause-opens c =
    let end : c.loop-index.index ≡ c.args.total = omega arith in
    let P : ℕ → Type 0 = λ n. OpensBehind (shots_up c.args.row.now c.args.param.now c.args.kind c.args.time c.args.total n) c.args.openings.now c.loop-index.openings in
    subst P end c.loop-index.invariant.opens
