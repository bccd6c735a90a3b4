use Rattle.std.proofs.Common.{Ok, Err}
use Rattle.http_ends.specs.Addresses.{address_of}
use Rattle.http_ends.proofs.AskLemmas.{asked_once}
use Rattle.http_ends.proofs.asking.ask.Goals as goal

pub returns-in-Ok-answer-clause-asked : goal.returns-in-Ok-answer-clause-asked
returns-in-Ok-answer-clause-asked g c = λ _.
    let parts = c.in-Some.parts in
    let named = rw c.as_str.ensures at c.in-Some.ensures.found in
    let shown = rw c.in-Ok-answer.ensures.place at c.hang_up.ensures.shown in
    (address_of parts.host.now parts.port parts.tail.now, named, asked_once _ _ _ _ _ _ _ _ _ _ _ _ _ _ (Ok c.in-Ok-answer.response) c.in-Ok.ensures.dialed c.in-Ok.ensures.fresh c.in-Ok-answer.ensures.carried shown)

pub returns-in-Err-answer-clause-asked : goal.returns-in-Err-answer-clause-asked
returns-in-Err-answer-clause-asked g c = λ _.
    let parts = c.in-Some.parts in
    let named = rw c.as_str.ensures at c.in-Some.ensures.found in
    let shown = rw c.in-Err-answer.ensures.place at c.hang_up.ensures.shown in
    (address_of parts.host.now parts.port parts.tail.now, named, asked_once _ _ _ _ _ _ _ _ _ _ _ _ _ _ (Err c.in-Err-answer.fault) c.in-Ok.ensures.dialed c.in-Ok.ensures.fresh c.in-Err-answer.ensures.carried shown)

pub returns-in-None-clause-bad : goal.returns-in-None-clause-bad
returns-in-None-clause-bad g c = λ _. rw c.as_str.ensures at c.in-None.ensures.none
