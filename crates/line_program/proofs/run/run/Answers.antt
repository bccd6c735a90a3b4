use Rattle.std.proofs.Common.{refl, inl}
use Rattle.line_program.specs.declared.stream.LineStream.{LineStream}
use Rattle.line_program.specs.Ports.{ports_of}
use Rattle.line_program.proofs.Running.{at_first, run_done, run_bad, run_large}
use Rattle.line_program.proofs.run.run.Goals as goal

pub returns-in-Ok-clause-ends : goal.returns-in-Ok-clause-ends
returns-in-Ok-clause-ends g c =
    let old : LineStream _ = record { machine = c.args.machine; out = c.new.result; lines = 0; size = 0 } in
    λ settings stands.
    let at = at_first g.M.LineMachine.play settings (g.O.Sink.taken c.args.sink.now) old stands c.new.ensures.items refl refl in
    rw c.status_of.ensures
    (run_done g.M.LineMachine.play settings (ports_of _ _ _ _) (ports_of _ _ _ _) _ _ old _ c.end_with_report.result c.in-Ok.ensures.ok at c.in-Ok.ensures.wrote c.end_with_report.ensures.ok c.end_with_report.ensures.err)

pub returns-in-Err-Bad-clause-ends : goal.returns-in-Err-Bad-clause-ends
returns-in-Err-Bad-clause-ends g c =
    let old : LineStream _ = record { machine = c.args.machine; out = c.new.result; lines = 0; size = 0 } in
    λ settings stands.
    let at = at_first g.M.LineMachine.play settings (g.O.Sink.taken c.args.sink.now) old stands c.new.ensures.items refl refl in
    rw c.status_of-in-Err-Bad.ensures
    (run_bad g.M.LineMachine.play settings (ports_of _ _ _ _) (ports_of _ _ _ _) _ _ old _ _ c.end_with_bad.result (rw c.in-Err-Bad.field-0-is at c.in-Err-Bad.ensures.err) at c.in-Err-Bad.ensures.wrote (rw c.in-Err-Bad.column-is at c.end_with_bad.ensures.ok) (rw c.in-Err-Bad.column-is at c.end_with_bad.ensures.err))

pub returns-in-Err-TooLarge-clause-ends : goal.returns-in-Err-TooLarge-clause-ends
returns-in-Err-TooLarge-clause-ends g c =
    let old : LineStream _ = record { machine = c.args.machine; out = c.new.result; lines = 0; size = 0 } in
    λ settings stands.
    let at = at_first g.M.LineMachine.play settings (g.O.Sink.taken c.args.sink.now) old stands c.new.ensures.items refl refl in
    rw c.status_of-in-Err-TooLarge.ensures
    (run_large g.M.LineMachine.play settings (ports_of _ _ _ _) (ports_of _ _ _ _) _ _ old _ c.end_with_large.result (rw c.in-Err-TooLarge.field-0-is at c.in-Err-TooLarge.ensures.err) at c.in-Err-TooLarge.ensures.wrote c.end_with_large.ensures.ok c.end_with_large.ensures.err)

pub returns-in-Err-Source-clause-ends : goal.returns-in-Err-Source-clause-ends
returns-in-Err-Source-clause-ends g c =
    let old : LineStream _ = record { machine = c.args.machine; out = c.new.result; lines = 0; size = 0 } in
    λ settings stands.
    let at = at_first g.M.LineMachine.play settings (g.O.Sink.taken c.args.sink.now) old stands c.new.ensures.items refl refl in (
      rw c.in-Err-Source.field-0-is at c.in-Err-Source.ensures.cause,
      λ input is. (rw c.in-Err-Source.field-0-is at c.in-Err-Source.ensures.err) input is _ at,
    )

pub returns-in-Err-Sink-clause-ends : goal.returns-in-Err-Sink-clause-ends
returns-in-Err-Sink-clause-ends g c =
    let old : LineStream _ = record { machine = c.args.machine; out = c.new.result; lines = 0; size = 0 } in
    λ settings stands.
    let at = at_first g.M.LineMachine.play settings (g.O.Sink.taken c.args.sink.now) old stands c.new.ensures.items refl refl in (
      rw c.in-Err-Sink.field-0-is at c.in-Err-Sink.ensures.cause,
      λ input is. inl ((rw c.in-Err-Sink.field-0-is at c.in-Err-Sink.ensures.err) input is _ at),
    )

pub returns-clause-ends : goal.returns-clause-ends
returns-clause-ends g c =
    let old : LineStream _ = record { machine = c.args.machine; out = c.new.result; lines = 0; size = 0 } in
    λ settings stands.
    let at = at_first g.M.LineMachine.play settings (g.O.Sink.taken c.args.sink.now) old stands c.new.ensures.items refl refl in
    λ input is. (rw c.in-Err-Memory.field-0-is at c.in-Err-Memory.ensures.err) input is _ at
