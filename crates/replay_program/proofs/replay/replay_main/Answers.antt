use Rattle.std.proofs.Common.{sym, subst, ◌≡◌, ◌∙◌}
use Rattle.line_program.specs.Script.{IsTaken}
use Rattle.line_program.specs.Outcome.{BadAt, LargeAt}
use Rattle.replay_program.specs.Script.{script}
use Rattle.replay_program.proofs.AnswerLemmas.{refused, same_settings}
use Rattle.replay_program.proofs.replay.replay_main.Goals as goal

pub returns-in-Some-clause-taken : goal.returns-in-Some-clause-taken
returns-in-Some-clause-taken g c = λ settings events input said is taken.
    let same : settings ≡ c.in-Some.settings = same_settings settings c.in-Some.settings _ said (sym c.settings_of.ensures ∙ c.in-Some.is) in
    rw c.code.ensures (c.run.ensures.taken events input is (subst (λ s. IsTaken (script s) 0 events input) same taken))

pub returns-in-Some-clause-bad : goal.returns-in-Some-clause-bad
returns-in-Some-clause-bad g c = λ settings events input column said is at.
    let same : settings ≡ c.in-Some.settings = same_settings settings c.in-Some.settings _ said (sym c.settings_of.ensures ∙ c.in-Some.is) in
    rw c.code.ensures (c.run.ensures.bad events input column is (subst (λ s. BadAt (script s) events input column) same at))

pub returns-in-Some-clause-large : goal.returns-in-Some-clause-large
returns-in-Some-clause-large g c = λ settings events input said is at.
    let same : settings ≡ c.in-Some.settings = same_settings settings c.in-Some.settings _ said (sym c.settings_of.ensures ∙ c.in-Some.is) in
    rw c.code.ensures (c.run.ensures.large events input is (subst (λ s. LargeAt (script s) events input) same at))

pub returns-in-None-clause-words : goal.returns-in-None-clause-words
returns-in-None-clause-words g c = λ run next.
    rw c.code-in-None.ensures (refused _ _ _ _ _ c.answer_words.result next c.answer_words.ensures.ends)
