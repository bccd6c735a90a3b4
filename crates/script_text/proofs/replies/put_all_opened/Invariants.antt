use Rattle.std.proofs.Common.{◌≡◌, ◌++◌, take, length}
use Rattle.std.specs.List.{flat_map}
use Rattle.line_grammar.specs.Writing.{spaced_number}
use Rattle.script_text.specs.Replies.{opened_word}
use Rattle.script_text.proofs.replies.put_all_opened.Given as goal

abbrev pub invariant-loop-one : goal.invariant-loop-one
invariant-loop-one l = l.out.items ≡ (l.fn.out.items ++ spaced_number (length l.opened)) ++ flat_map opened_word (take l.one-index l.opened)
