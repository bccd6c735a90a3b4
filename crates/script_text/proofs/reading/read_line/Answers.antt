use Rattle.std.proofs.Common.{refl, length, ◌+◌, ◌-◌}
use Rattle.line_grammar.specs.Grammar.{Says}
use Rattle.script_text.specs.Lines.{line, line_at}
use Rattle.script_text.proofs.LineLaws.{line_reads}
use Rattle.script_text.proofs.ReadLaws.{line_found, line_only, no_line, left_within, line_column, rest_within, more_no_line, more_column}
use Rattle.script_text.proofs.reading.read_line.Goals as goal

pub fault-requires : goal.fault-requires
fault-requires c = rest_within (Says line) line_at (line_reads (c.law_grammar.ensures line)) c.args.bytes.now c.in-Ok.event c.any.new.reader.rest.now c.in-Ok.ensures

pub fault-requires-in-Bad : goal.fault-requires-in-Bad
fault-requires-in-Bad c = left_within (Says line) line_at (line_reads (c.law_grammar.ensures line)) c.args.bytes.now c.in-Bad.left (rw c.in-Bad.is at c.in-Err.ensures)

pub returns-then-left-eq0-clause-line : goal.returns-then-left-eq0-clause-line
returns-then-left-eq0-clause-line c = line_found (Says line) line_at (line_reads (c.law_grammar.ensures line)) c.args.bytes.now c.in-Ok.event c.any.new.reader.rest.now c.in-Ok.ensures c.if-left-eq0.true

pub returns-then-left-eq0-clause-only : goal.returns-then-left-eq0-clause-only
returns-then-left-eq0-clause-only c = λ other h. line_only (Says line) line_at (line_reads (c.law_grammar.ensures line)) c.args.bytes.now c.in-Ok.event c.any.new.reader.rest.now c.in-Ok.ensures other h

pub returns-else-left-eq0-clause-only : goal.returns-else-left-eq0-clause-only
returns-else-left-eq0-clause-only c = λ other h. absurd (more_no_line (Says line) line_at (line_reads (c.law_grammar.ensures line)) c.args.bytes.now c.in-Ok.event c.any.new.reader.rest.now c.in-Ok.ensures c.if-left-eq0.false other h)

pub returns-else-left-eq0-clause-fault : goal.returns-else-left-eq0-clause-fault
returns-else-left-eq0-clause-fault c =
    rw c.fault.ensures ((_, more_column (Says line) line_at (line_reads (c.law_grammar.ensures line)) c.args.bytes.now c.in-Ok.event c.any.new.reader.rest.now (length c.args.bytes.now - length c.any.new.reader.rest.now + 1) c.in-Ok.ensures refl, refl), more_no_line (Says line) line_at (line_reads (c.law_grammar.ensures line)) c.args.bytes.now c.in-Ok.event c.any.new.reader.rest.now c.in-Ok.ensures c.if-left-eq0.false)

pub returns-in-Bad-clause-only : goal.returns-in-Bad-clause-only
returns-in-Bad-clause-only c = λ other h. absurd (no_line (Says line) line_at (line_reads (c.law_grammar.ensures line)) c.args.bytes.now c.in-Bad.left (rw c.in-Bad.is at c.in-Err.ensures) other h)

pub returns-in-Bad-clause-fault : goal.returns-in-Bad-clause-fault
returns-in-Bad-clause-fault c =
    rw c.fault-in-Bad.ensures ((_, line_column (Says line) line_at (line_reads (c.law_grammar.ensures line)) c.args.bytes.now c.in-Bad.left (length c.args.bytes.now - c.in-Bad.left + 1) (rw c.in-Bad.is at c.in-Err.ensures) refl, refl), no_line (Says line) line_at (line_reads (c.law_grammar.ensures line)) c.args.bytes.now c.in-Bad.left (rw c.in-Bad.is at c.in-Err.ensures))
