use Rattle.std.proofs.Common.{◌++◌, ◌∷◌, [], refl, sym, ap, ◌∙◌, length, ◌+◌, ◌-◌}
use Rattle.line_grammar.specs.Grammar.{Says}
use Rattle.script_text.specs.Manage.{line, line_at}
use Rattle.script_text.proofs.ReadLaws.{line_found, line_only, no_line, more_no_line}
use Rattle.script_text.proofs.ManageLaws.{line_reads, bad_within, bad_column, more_within, more_column}
use Rattle.script_text.proofs.manage_reading.read_ended.Goals as goal

pub fault-requires : goal.fault-requires
fault-requires c = more_within (line_reads (c.law_grammar.ensures line)) c.args.bytes.now c.in-Ok.said c.any.new.reader.rest.now (ap line_at (sym c.requires) ∙ c.in-Ok.ensures)

pub fault-requires-in-Bad : goal.fault-requires-in-Bad
fault-requires-in-Bad c =
    rw c.saturating_sub.ensures (bad_within (line_reads (c.law_grammar.ensures line)) c.args.bytes.now c.in-Bad.left (ap line_at (sym c.requires) ∙ rw c.in-Bad.is at c.in-Err.ensures))

pub returns-then-left-eq0-clause-line : goal.returns-then-left-eq0-clause-line
returns-then-left-eq0-clause-line c =
    line_found (Says line) line_at (line_reads (c.law_grammar.ensures line)) (c.args.bytes.now ++ 10 ∷ []) c.in-Ok.said c.any.new.reader.rest.now (ap line_at (sym c.requires) ∙ c.in-Ok.ensures) c.if-left-eq0.true

pub returns-then-left-eq0-clause-only : goal.returns-then-left-eq0-clause-only
returns-then-left-eq0-clause-only c = λ other h.
    line_only (Says line) line_at (line_reads (c.law_grammar.ensures line)) (c.args.bytes.now ++ 10 ∷ []) c.in-Ok.said c.any.new.reader.rest.now (ap line_at (sym c.requires) ∙ c.in-Ok.ensures) other h

pub returns-else-left-eq0-clause-only : goal.returns-else-left-eq0-clause-only
returns-else-left-eq0-clause-only c = λ other h.
    absurd (more_no_line (Says line) line_at (line_reads (c.law_grammar.ensures line)) (c.args.bytes.now ++ 10 ∷ []) c.in-Ok.said c.any.new.reader.rest.now (ap line_at (sym c.requires) ∙ c.in-Ok.ensures) c.if-left-eq0.false other h)

pub returns-else-left-eq0-clause-fault : goal.returns-else-left-eq0-clause-fault
returns-else-left-eq0-clause-fault c =
    let reads = line_reads (c.law_grammar.ensures line) in
    let read = ap line_at (sym c.requires) ∙ c.in-Ok.ensures in
    rw c.fault.ensures (
      (_, more_column reads c.args.bytes.now c.in-Ok.said c.any.new.reader.rest.now (length c.args.bytes.now - length c.any.new.reader.rest.now + 1) read c.if-left-eq0.false refl, refl),
      more_no_line (Says line) line_at reads (c.args.bytes.now ++ 10 ∷ []) c.in-Ok.said c.any.new.reader.rest.now read c.if-left-eq0.false,
    )

pub returns-in-Bad-clause-only : goal.returns-in-Bad-clause-only
returns-in-Bad-clause-only c = λ other h.
    absurd (no_line (Says line) line_at (line_reads (c.law_grammar.ensures line)) (c.args.bytes.now ++ 10 ∷ []) c.in-Bad.left (ap line_at (sym c.requires) ∙ rw c.in-Bad.is at c.in-Err.ensures) other h)

pub returns-in-Bad-clause-fault : goal.returns-in-Bad-clause-fault
returns-in-Bad-clause-fault c =
    let reads = line_reads (c.law_grammar.ensures line) in
    let read = ap line_at (sym c.requires) ∙ rw c.in-Bad.is at c.in-Err.ensures in
    rw (c.fault-in-Bad.ensures, c.saturating_sub.ensures) (
      (_, bad_column reads c.args.bytes.now c.in-Bad.left (length c.args.bytes.now - (c.in-Bad.left - 1) + 1) read refl, refl),
      no_line (Says line) line_at reads (c.args.bytes.now ++ 10 ∷ []) c.in-Bad.left read,
    )
