-- How words that are none of `run` are answered.
use Rattle.std.proofs.Common.{◌≡◌, ◌⊎◌, ℕ, List, Some, None, refl, inl, inr}
use Rattle.std.specs.Prelude.{Option, IsNone}
use Rattle.cluster_history.specs.declared.settings.Settings.{Settings}
use Rattle.replay_program.specs.Next.{OtherEnds}
use Rattle.line_program.specs.Outcome.{code_of}
use Rattle.replay_program.specs.declared.next.Ask.{Ask}
use Rattle.line_program.specs.declared.status.Status.{Status}
use Rattle.line_program.specs.declared.status.Status.TheVariants as status

-- words that are no question end with 2, or with 4 where the sink fails
pub refused : (ask : Option Ask) (taken now : Option (List ℕ)) (wrote wrotes : ℕ) (end : Status)
    → IsNone ask → OtherEnds ask taken now wrote wrotes end → (code_of end ≡ 2) ⊎ (code_of end ≡ 4)
refused (Some ask) taken now wrote wrotes end none e = let never : ⊥ = cc in absurd never
refused None taken now wrote wrotes status.BadWords none e = inl refl
refused None taken now wrote wrotes status.SinkFailed none e = inr refl
refused None taken now wrote wrotes status.Done none e = absurd e
refused None taken now wrote wrotes status.BadLine none e = absurd e
refused None taken now wrote wrotes status.SourceFailed none e = absurd e
refused None taken now wrote wrotes status.NoMemory none e = absurd e
refused None taken now wrote wrotes status.TooLarge none e = absurd e

-- words name one setting
pub same_settings : (settings other : Settings) (said : Option Settings) → said ≡ Some settings → said ≡ Some other → settings ≡ other
same_settings settings other said first second = cc
