use Rattle.std.proofs.Common.{ℕ, subst, Err}
use Rattle.clap.specs.Words.{first_of, rows_of, found_of}
use Rattle.option_command.specs.Said.{StandsNumber}
use Rattle.option_command.specs.Refusals.{GivesForm}
use Rattle.option_command.proofs.said.small_number_of.Goals as goal

pub returns-in-Err : goal.returns-in-Err
returns-in-Err c =
    subst (λ (n : ℕ). GivesForm {T = ℕ} (StandsNumber 1 n (first_of c.args.name.now (rows_of (found_of c.args.matches.now)))) (Err c.in-Err.refusal)) c.from.ensures c.in-Err.ensures
