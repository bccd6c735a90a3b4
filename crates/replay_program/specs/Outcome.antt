-- How a call with some words ends.
use Rattle.std.specs.Prelude.{ℕ, List, Option, codes}
use Rattle.std.specs.Io.KnownBytes.{Appends}
use Rattle.outside.specs.Causes.{Rose}
use Rattle.outside.specs.Streams.{AppendsFront}
use Rattle.line_program.specs.declared.status.Status.{Status}
use Rattle.line_program.specs.declared.status.Status.TheVariants as status

-- How words that are no command were answered, by the bytes that the sink took before and after and the counts of its faults.
abbrev pub WordsEnd : Option (List ℕ) → Option (List ℕ) → ℕ → ℕ → Status → Type 0
WordsEnd taken now wrote wrotes status.BadWords = Appends taken now (codes "bad words\n")
WordsEnd taken now wrote wrotes status.SinkFailed = Rose wrote wrotes × AppendsFront taken now (codes "bad words\n")
WordsEnd taken now wrote wrotes _ = ⊥
