use Rattle.std.proofs.Common.{refl}
use Rattle.option_words.specs.Programs.{executor_app, executor_options}
use Rattle.option_words.proofs.Ready.{plain_formed, plain_takes, plain_says}
use Rattle.option_words.proofs.Tables.{executor_ready}
use Rattle.option_words.proofs.laws.law_executor_words.Goals as goal

pub returns : goal.returns
returns c = λ uses words plain.
    (let says = plain_says executor_app executor_options executor_ready uses words plain in
    let formed = plain_formed executor_app executor_options executor_ready uses words plain in (
      plain_takes executor_app executor_options executor_ready uses words plain,
      (formed _ refl tt, (formed _ refl tt, (formed _ refl tt, (formed _ refl tt, (formed _ refl (refl, refl), (formed _ refl tt, (formed _ refl tt, (formed _ refl tt, tt)))))))),
      (says _ refl, (says _ refl, (says _ refl, (says _ refl, (says _ refl, (says _ refl, (says _ refl, (says _ refl, tt)))))))),
    ))
