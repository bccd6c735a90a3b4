use Rattle.std.proofs.lemmas.Result.{err_from_is_err_and}
use Rattle.line_grammar.specs.Grammar.{Gives}
use Rattle.script_text.specs.declared.manage_lines.ManageLine.TheVariants.{AddJob}
use Rattle.script_text.proofs.SpecReading.{spec_gives, spec_fails}
use Rattle.script_text.proofs.manage_reading.new_job.Goals as goal

pub returns-in_err-spec : goal.returns-in_err-spec
returns-in_err-spec c =
    let p = err_from_is_err_and c.from_residual.result c.from_residual.ensures.1 in
    rw (p.1, p.2) (spec_fails (λ s. Gives (AddJob s)) c.args.reader.now.rest.now c.in_err-spec.field-0.0 c.in_err-spec.ensures)

pub returns : goal.returns
returns c = spec_gives (λ s. Gives (AddJob s)) c.args.reader.now.rest.now c.in_ok-spec.spec c.spec.new.reader.rest.now c.in_ok-spec.ensures
