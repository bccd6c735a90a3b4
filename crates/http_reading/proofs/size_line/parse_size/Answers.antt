use Rattle.std.proofs.Common.{ℕ, length, ap, refl, sym, ◌∙◌, subst, arith, length-take}
use Rattle.httparse.specs.declared.InvalidChunkSize.{InvalidChunkSize}
use Rattle.httparse.specs.Grammar.{ChunkLine, HasNoChunkLine, MayBecomeChunkLine}
use Rattle.httparse.specs.Spans.{IsChunkLineAt}
use Rattle.http_reading.specs.ChunkReads.{LineAt}
use Rattle.http_reading.specs.declared.plan.TheConstants.{MOST_LINE}
use Rattle.http_reading.proofs.HeadLemmas.{complete_is, partial_is, not_complete}
use Rattle.http_reading.proofs.LineLemmas.{line_at, line_inside, open_line, long_line, bad_line}
use Rattle.http_reading.proofs.size_line.parse_size.Goals as goal

pub overflow_add-result : goal.overflow_add-result
overflow_add-result c = omega (arith, c.first_bad.ensures.inside, ap length c.front-text.ensures, length-take MOST_LINE c.args.bytes.now)

pub returns-in_default-clause-err : goal.returns-in_default-clause-err
returns-in_default-clause-err c =
    (c.first_bad.result, refl, bad_line c.args.bytes.now c.front-text.result.now c.first_bad.result c.front-text.ensures c.first_bad.ensures)

pub returns-then-is_complete-clause-ok : goal.returns-then-is_complete-clause-ok
returns-then-is_complete-clause-ok c =
    let text = c.front-text.result.now in
    let line = c.unwrap.result in
    let at = complete_is InvalidChunkSize (λ (r : ℕ × ℕ). (l : ChunkLine) × IsChunkLineAt text r.0 r.1 l) c.in-Ok.status line c.unwrap.ensures c.in-Ok.ensures.complete in
    subst (LineAt c.args.bytes.now) (sym c.told.ensures)
    (line_at c.args.bytes.now text line.0 line.1 c.front-text.ensures at (line_inside text line.0 line.1 at))

pub returns-then-bytes-lt-MOST_LINE-clause-ok : goal.returns-then-bytes-lt-MOST_LINE-clause-ok
returns-then-bytes-lt-MOST_LINE-clause-ok c =
    let p = c.in-Ok in
    let text = c.front-text.result.now in
    let none = not_complete p.status (sym c.is_complete.ensures ∙ c.if-is_complete.false) in
    open_line c.args.bytes.now text c.front-text.ensures c.if-bytes-lt-MOST_LINE.true
    (partial_is InvalidChunkSize (HasNoChunkLine text) p.status none p.ensures.partial)
    (partial_is InvalidChunkSize (MayBecomeChunkLine text) p.status none p.ensures.unfinished)

pub returns-else-bytes-lt-MOST_LINE-clause-err : goal.returns-else-bytes-lt-MOST_LINE-clause-err
returns-else-bytes-lt-MOST_LINE-clause-err c =
    let p = c.in-Ok in
    let text = c.front-text.result.now in
    let none = not_complete p.status (sym c.is_complete.ensures ∙ c.if-is_complete.false) in
    long_line c.args.bytes.now text c.front-text.ensures c.if-bytes-lt-MOST_LINE.false
    (partial_is InvalidChunkSize (HasNoChunkLine text) p.status none p.ensures.partial)
    (partial_is InvalidChunkSize (MayBecomeChunkLine text) p.status none p.ensures.unfinished)
