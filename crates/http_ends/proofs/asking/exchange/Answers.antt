use Rattle.std.proofs.Common.{◌∙◌}
use Rattle.http_ends.proofs.ExchangeLemmas.{appended, rose_above, carried_whole}
use Rattle.http_ends.proofs.asking.exchange.Goals as goal

pub returns-clause-carried : goal.returns-clause-carried
returns-clause-carried g c = λ seen taken met.
    let written = appended _ _ c.args.text.now taken c.in_ok-send_text.ensures.ok in
    carried_whole c.args.text.now _ _ _ _ _ _ _ _ c.read_response.result
    (c.in_ok-send_text.ensures.seen ∙ seen) (c.in_ok-send_text.ensures.end ∙ met) (c.read_response.ensures.written ∙ written)
    c.read_response.ensures.response c.read_response.ensures.fault (λ is. rose_above _ _ (c.read_response.ensures.cause is))
