use Rattle.std.proofs.lemmas.Result.{err_from_is_err_and}
use Rattle.clap.specs.Words.{rows_of, found_of}
use Rattle.job_values.specs.declared.limits.TheConstants.{EXECUTORS}
use Rattle.option_words.specs.declared.limits.TheConstants.{LAST_PORT}
use Rattle.option_words.specs.Programs.{port_option, app_option, address_option, admins_option, base_option, token_option, runners_option, spool_option}
use Rattle.option_command.specs.Said.{text_in, StandsNumber, StandsText, StandAddresses, HasTextForm, IsExecutor}
use Rattle.option_command.specs.declared.forms.TextForm.TheVariants.{Any, App, Address, Base}
use Rattle.option_command.proofs.Texts.{refuses}
use Rattle.option_command.proofs.executor.executor_said.Goals as goal

pub returns-in_err-number_of : goal.returns-in_err-number_of
returns-in_err-number_of c =
    let p = err_from_is_err_and c.from_residual.result c.from_residual.ensures.1 in
    let texts = text_in (rows_of (found_of c.args.matches.now)) in
    rw (p.1, p.2) (refuses (StandsNumber 1 LAST_PORT (texts port_option)) (IsExecutor texts) c.in_err-number_of.field-0.0 c.in_err-number_of.ensures (λ o is. (o.port, is.port)))

pub returns-in_err-formed_text_of : goal.returns-in_err-formed_text_of
returns-in_err-formed_text_of c =
    let p = err_from_is_err_and c.from_residual-in_err-formed_text_of.result c.from_residual-in_err-formed_text_of.ensures.1 in
    let texts = text_in (rows_of (found_of c.args.matches.now)) in
    rw (p.1, p.2) (refuses (StandsText (HasTextForm App) (texts app_option)) (IsExecutor texts) c.in_err-formed_text_of.field-0.0 c.in_err-formed_text_of.ensures (λ o is. (o.app, is.app)))

pub returns-in_err-formed_text_of-2 : goal.returns-in_err-formed_text_of-2
returns-in_err-formed_text_of-2 c =
    let p = err_from_is_err_and c.from_residual-in_err-formed_text_of-2.result c.from_residual-in_err-formed_text_of-2.ensures.1 in
    let texts = text_in (rows_of (found_of c.args.matches.now)) in
    rw (p.1, p.2) (refuses (StandsText (HasTextForm Address) (texts address_option)) (IsExecutor texts) c.in_err-formed_text_of-2.field-0.0 c.in_err-formed_text_of-2.ensures (λ o is. (o.address, is.address)))

pub returns-in_err-addresses_of : goal.returns-in_err-addresses_of
returns-in_err-addresses_of c =
    let p = err_from_is_err_and c.from_residual-in_err-addresses_of.result c.from_residual-in_err-addresses_of.ensures.1 in
    let texts = text_in (rows_of (found_of c.args.matches.now)) in
    rw (p.1, p.2) (refuses (StandAddresses (texts admins_option)) (IsExecutor texts) c.in_err-addresses_of.field-0.0 c.in_err-addresses_of.ensures (λ o is. (o.admins, is.admins)))

pub returns-in_err-formed_text_of-3 : goal.returns-in_err-formed_text_of-3
returns-in_err-formed_text_of-3 c =
    let p = err_from_is_err_and c.from_residual-in_err-formed_text_of-3.result c.from_residual-in_err-formed_text_of-3.ensures.1 in
    let texts = text_in (rows_of (found_of c.args.matches.now)) in
    rw (p.1, p.2) (refuses (StandsText (HasTextForm Base) (texts base_option)) (IsExecutor texts) c.in_err-formed_text_of-3.field-0.0 c.in_err-formed_text_of-3.ensures (λ o is. (o.base, is.base)))

pub returns-in_err-formed_text_of-4 : goal.returns-in_err-formed_text_of-4
returns-in_err-formed_text_of-4 c =
    let p = err_from_is_err_and c.from_residual-in_err-formed_text_of-4.result c.from_residual-in_err-formed_text_of-4.ensures.1 in
    let texts = text_in (rows_of (found_of c.args.matches.now)) in
    rw (p.1, p.2) (refuses (StandsText (HasTextForm Any) (texts token_option)) (IsExecutor texts) c.in_err-formed_text_of-4.field-0.0 c.in_err-formed_text_of-4.ensures (λ o is. (o.token, is.token)))

pub returns-in_err-small_number_of : goal.returns-in_err-small_number_of
returns-in_err-small_number_of c =
    let p = err_from_is_err_and c.from_residual-in_err-small_number_of.result c.from_residual-in_err-small_number_of.ensures.1 in
    let texts = text_in (rows_of (found_of c.args.matches.now)) in
    rw (p.1, p.2) (refuses (StandsNumber 1 EXECUTORS (texts runners_option)) (IsExecutor texts) c.in_err-small_number_of.field-0.0 c.in_err-small_number_of.ensures (λ o is. (o.runners, is.runners)))

pub returns-in_err-formed_text_of-5 : goal.returns-in_err-formed_text_of-5
returns-in_err-formed_text_of-5 c =
    let p = err_from_is_err_and c.from_residual-in_err-formed_text_of-5.result c.from_residual-in_err-formed_text_of-5.ensures.1 in
    let texts = text_in (rows_of (found_of c.args.matches.now)) in
    rw (p.1, p.2) (refuses (StandsText (HasTextForm Any) (texts spool_option)) (IsExecutor texts) c.in_err-formed_text_of-5.field-0.0 c.in_err-formed_text_of-5.ensures (λ o is. (o.spool, is.spool)))
