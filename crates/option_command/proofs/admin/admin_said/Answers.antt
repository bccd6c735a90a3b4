use Rattle.std.proofs.lemmas.Result.{err_from_is_err_and}
use Rattle.clap.specs.Words.{rows_of, found_of}
use Rattle.job_values.specs.declared.limits.TheConstants.{ADMINS}
use Rattle.option_words.specs.declared.limits.TheConstants.{LAST_FIRST_PORT, MOST_FAST, MOST_SLOW}
use Rattle.option_words.specs.Programs.{first_port_option, nodes_option, offset_option, fast_option, slow_option, token_option}
use Rattle.option_command.specs.Said.{text_in, StandsNumber, StandsOffset, StandsText, HasTextForm, IsAdmin}
use Rattle.option_command.specs.declared.forms.TextForm.TheVariants.{Any}
use Rattle.option_command.proofs.Texts.{refuses}
use Rattle.option_command.proofs.admin.admin_said.Goals as goal

pub returns-in_err-number_of : goal.returns-in_err-number_of
returns-in_err-number_of c =
    let p = err_from_is_err_and c.from_residual.result c.from_residual.ensures.1 in
    let texts = text_in (rows_of (found_of c.args.matches.now)) in
    rw (p.1, p.2) (refuses (StandsNumber 1 LAST_FIRST_PORT (texts first_port_option)) (IsAdmin texts) c.in_err-number_of.field-0.0 c.in_err-number_of.ensures (λ o is. (o.port, is.port)))

pub returns-in_err-small_number_of : goal.returns-in_err-small_number_of
returns-in_err-small_number_of c =
    let p = err_from_is_err_and c.from_residual-in_err-small_number_of.result c.from_residual-in_err-small_number_of.ensures.1 in
    let texts = text_in (rows_of (found_of c.args.matches.now)) in
    rw (p.1, p.2) (refuses (StandsNumber 1 ADMINS (texts nodes_option)) (IsAdmin texts) c.in_err-small_number_of.field-0.0 c.in_err-small_number_of.ensures (λ o is. (o.nodes, is.nodes)))

pub returns-in_err-offset_of : goal.returns-in_err-offset_of
returns-in_err-offset_of c =
    let p = err_from_is_err_and c.from_residual-in_err-offset_of.result c.from_residual-in_err-offset_of.ensures.1 in
    let texts = text_in (rows_of (found_of c.args.matches.now)) in
    rw (p.1, p.2) (refuses (StandsOffset (texts offset_option)) (IsAdmin texts) c.in_err-offset_of.field-0.0 c.in_err-offset_of.ensures (λ o is. (o.offset, is.offset)))

pub returns-in_err-small_number_of-2 : goal.returns-in_err-small_number_of-2
returns-in_err-small_number_of-2 c =
    let p = err_from_is_err_and c.from_residual-in_err-small_number_of-2.result c.from_residual-in_err-small_number_of-2.ensures.1 in
    let texts = text_in (rows_of (found_of c.args.matches.now)) in
    rw (p.1, p.2) (refuses (StandsNumber 1 MOST_FAST (texts fast_option)) (IsAdmin texts) c.in_err-small_number_of-2.field-0.0 c.in_err-small_number_of-2.ensures (λ o is. (o.fast, is.fast)))

pub returns-in_err-small_number_of-3 : goal.returns-in_err-small_number_of-3
returns-in_err-small_number_of-3 c =
    let p = err_from_is_err_and c.from_residual-in_err-small_number_of-3.result c.from_residual-in_err-small_number_of-3.ensures.1 in
    let texts = text_in (rows_of (found_of c.args.matches.now)) in
    rw (p.1, p.2) (refuses (StandsNumber 1 MOST_SLOW (texts slow_option)) (IsAdmin texts) c.in_err-small_number_of-3.field-0.0 c.in_err-small_number_of-3.ensures (λ o is. (o.slow, is.slow)))

pub returns-in_err-formed_text_of : goal.returns-in_err-formed_text_of
returns-in_err-formed_text_of c =
    let p = err_from_is_err_and c.from_residual-in_err-formed_text_of.result c.from_residual-in_err-formed_text_of.ensures.1 in
    let texts = text_in (rows_of (found_of c.args.matches.now)) in
    rw (p.1, p.2) (refuses (StandsText (HasTextForm Any) (texts token_option)) (IsAdmin texts) c.in_err-formed_text_of.field-0.0 c.in_err-formed_text_of.ensures (λ o is. (o.token, is.token)))
