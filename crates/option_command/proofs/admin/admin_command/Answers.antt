use Rattle.clap.specs.Words.{app_of}
use Rattle.option_words.specs.Options.{rule_for}
use Rattle.option_words.specs.Programs.{first_port_option, nodes_option, offset_option, fast_option, slow_option, token_option, base_option, db_option}
use Rattle.option_words.proofs.Tables.{admin_made}
use Rattle.std.proofs.Common.{◌∙◌}
use Rattle.option_command.proofs.Texts.{more, weaken}
use Rattle.option_command.proofs.admin.admin_command.Goals as goal

pub returns : goal.returns
returns c =
    let a0 = c.bare_command-command.ensures in
    let a1 = more _ _ _ (rule_for first_port_option) (rw c.from.ensures at c.in_ok-command.ensures) a0 in
    let a2 = more _ _ _ (rule_for nodes_option) c.in_ok-command-2.ensures a1 in
    let a3 = more _ _ _ (rule_for offset_option) (rw (c.from-2.ensures, c.from-3.ensures) at c.in_ok-command-3.ensures) a2 in
    let a4 = more _ _ _ (rule_for fast_option) (rw c.from-4.ensures at c.in_ok-command-4.ensures) a3 in
    let a5 = more _ _ _ (rule_for slow_option) (rw c.from-5.ensures at c.in_ok-command-5.ensures) a4 in
    let a6 = more _ _ _ (rule_for token_option) c.in_ok-command-6.ensures a5 in
    let a7 = more _ _ _ (rule_for base_option) c.in_ok-command-7.ensures a6 in
    weaken c.with_optional.result _ _ (λ x e. more (app_of x) _ _ (rule_for db_option) e a7 ∙ admin_made) c.with_optional.ensures
