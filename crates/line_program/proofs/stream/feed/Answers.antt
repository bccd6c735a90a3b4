use Rattle.std.proofs.Common.{◌≡◌, ℕ, ◌++◌, ◌+◌, length, refl, arith, ap, sym, length-append}
use Rattle.std.proofs.lemmas.List.{take-append-drop}
use Rattle.line_program.proofs.CutLemmas.{open_append}
use Rattle.line_program.proofs.Feeding.{fed_more, ends_fed, goes_pending, front_fed}
use Rattle.line_program.proofs.stream.feed.Goals as goal

pub returns-in-Err-clause-err : goal.returns-in-Err-clause-err
returns-in-Err-clause-err g c =
    let split : c.loop-at.rest.now ≡ c.split_at.result.0.now ++ c.split_at.result.1.now
    = rw (c.split_at.ensures.front, c.split_at.ensures.back) (sym (take-append-drop (c.in-Some.at + 1) c.loop-at.rest.now)) in
    ends_fed g.M.LineMachine.play _ _ _ _ _ _ _ _ _ _ _ _ _ c.loop-at.invariant.0 split c.in-Err.ensures.err

pub loop-at-preserved : goal.loop-at-preserved
loop-at-preserved g c =
    let split : c.loop-at.rest.now ≡ c.split_at.result.0.now ++ c.split_at.result.1.now
    = rw (c.split_at.ensures.front, c.split_at.ensures.back) (sym (take-append-drop (c.in-Some.at + 1) c.loop-at.rest.now)) in (
      rw c.in-Ok.ensures.empty (fed_more g.M.LineMachine.play _ _ _ _ _ _ _ _ _ _ _ _ c.loop-at.invariant.0 split c.in-Ok.ensures.ok),
      rw c.in-Ok.ensures.empty refl,
      omega (arith, c.in-Ok.ensures.size, c.in-Ok.ensures.none_left, ap length split, length-append {A = ℕ}),
      omega arith,
    )

pub returns-in-Ok-extend_from_slice-clause-ok : goal.returns-in-Ok-extend_from_slice-clause-ok
returns-in-Ok-extend_from_slice-clause-ok g c = rw c.in-Ok-extend_from_slice.ensures.items (goes_pending g.M.LineMachine.play _ _ _ _ _ _ _ _ c.loop-at.invariant.0)

pub returns-in-Ok-extend_from_slice-clause-one : goal.returns-in-Ok-extend_from_slice-clause-one
returns-in-Ok-extend_from_slice-clause-one g c =
    rw c.in-Ok-extend_from_slice.ensures.items (open_append c.loop-at.pending.items c.loop-at.rest.now c.loop-at.invariant.1 c.in_default.ensures)

pub returns-in-Err-extend_from_slice-clause-err : goal.returns-in-Err-extend_from_slice-clause-err
returns-in-Err-extend_from_slice-clause-err g c = front_fed g.M.LineMachine.play _ _ _ _ _ _ _ _ c.loop-at.invariant.0
