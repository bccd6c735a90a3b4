use Rattle.clap.specs.Words.{app_of}
use Rattle.option_words.specs.Options.{rule_for}
use Rattle.option_words.specs.Programs.{port_option, app_option, address_option, admins_option, base_option, token_option, runners_option, spool_option}
use Rattle.option_words.proofs.Tables.{executor_made}
use Rattle.std.proofs.Common.{◌∙◌}
use Rattle.option_command.proofs.Texts.{more, weaken}
use Rattle.option_command.proofs.executor.executor_command.Goals as goal

pub returns : goal.returns
returns c =
    let a0 = c.bare_command-command.ensures in
    let a1 = more _ _ _ (rule_for port_option) (rw c.from.ensures at c.in_ok-command.ensures) a0 in
    let a2 = more _ _ _ (rule_for app_option) c.in_ok-command-2.ensures a1 in
    let a3 = more _ _ _ (rule_for address_option) c.in_ok-command-3.ensures a2 in
    let a4 = more _ _ _ (rule_for admins_option) c.in_ok-command-4.ensures a3 in
    let a5 = more _ _ _ (rule_for base_option) c.in_ok-command-5.ensures a4 in
    let a6 = more _ _ _ (rule_for token_option) c.in_ok-command-6.ensures a5 in
    let a7 = more _ _ _ (rule_for runners_option) c.in_ok-command-7.ensures a6 in
    weaken c.with_text-4.result _ _ (λ x e. more (app_of x) _ _ (rule_for spool_option) e a7 ∙ executor_made) c.with_text-4.ensures
