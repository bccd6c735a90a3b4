use Rattle.std.proofs.Common.{[], append-nil, sym, refl}
use Rattle.line_program.proofs.OneEnd.{AllLines, BadOne, LargeOne, yields}
use Rattle.line_program.proofs.run.run_lines.Goals as goal

pub returns-clause-taken : goal.returns-clause-taken
returns-clause-taken g c = λ settings events input stands is taken.
    yields (g.M.LineMachine.play.meaning settings) _ _ c.run.result AllLines events input input [] (c.run.ensures.ends settings stands) is taken (sym (append-nil input)) refl

pub returns-clause-bad : goal.returns-clause-bad
returns-clause-bad g c = λ settings events input column stands is at.
    yields (g.M.LineMachine.play.meaning settings) _ _ c.run.result BadOne events input at.whole at.rest (c.run.ensures.ends settings stands) is at.script at.parts (at.next.some, at.next.within, at.next.bad.none)

pub returns-clause-large : goal.returns-clause-large
returns-clause-large g c = λ settings events input stands is at.
    yields (g.M.LineMachine.play.meaning settings) _ _ c.run.result LargeOne events input at.whole at.rest (c.run.ensures.ends settings stands) is at.script at.parts (at.next.some, at.next.large)
