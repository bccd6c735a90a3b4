-- What reading says of the lines of a script.
use Rattle.std.proofs.Common.{◌≡◌, ℕ, List, refl}
use Rattle.line_grammar.specs.Languages.{Reads}
use Rattle.line_grammar.specs.Grammar.{Says, reading}
use Rattle.line_grammar.proofs.Algebra.{reads_as}
use Rattle.line_grammar.proofs.TableLaws.{one_of_reading}
use Rattle.script_text.specs.declared.commands.Command.TheVariants as command
use Rattle.script_text.specs.Lines.{word, other_commands, behind, line, line_at}

line_reading : (bytes : List ℕ) → reading line bytes ≡ line_at bytes
line_reading bytes = one_of_reading word command.Start other_commands refl behind bytes

-- the law of the grammar of lines, by their commands
pub line_reads : Reads (Says line) (reading line) → Reads (Says line) line_at
line_reads reads = reads_as (Says line) (reading line) line_at line_reading reads
