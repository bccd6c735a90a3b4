use Rattle.std.proofs.Common.{◌+◌, arith, refl, length, sym}
use Rattle.line_program.specs.declared.stream.LineStream.{LineStream}
use Rattle.line_program.proofs.ProgressLemmas.{at_more}
use Rattle.line_program.proofs.stream.LineStream.take_line.Goals as goal

pub returns-in-Ok-act-clause-ok : goal.returns-in-Ok-act-clause-ok
returns-in-Ok-act-clause-ok g c =
    let new : LineStream _ = record {
      machine = c.act.new.self;
      out = c.act.new.out;
      lines = c.saturating_add-self.result;
      size = c.args.self.now.size + length c.args.line.now;
    } in
    λ base now whole at.
    at_more g.M.LineMachine.play base now c.args.self.now new c.in-Ok.event c.args.line.now whole c.in-Ok.ensures.line c.in-Ok-act.ensures (rw (← c.requires.bytes) (sym c.if-not-is_small.ensures.value)) (λ few. omega (arith, c.if-not-is_small.ensures.within)) refl c.requires.some at

pub returns-in-Err-Bad-clause-err : goal.returns-in-Err-Bad-clause-err
returns-in-Err-Bad-clause-err g c = (
  record { machine = refl; out = refl; lines = refl; size = refl },
  rw (← c.requires.bytes) (sym c.if-not-is_small.ensures.value),
  λ settings. let bad = (rw c.in-Err-Bad.field-0-is at c.in-Err-Bad.ensures.bad) settings in rw (← c.in-Err-Bad.column-is) at bad,
)
