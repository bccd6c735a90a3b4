use Rattle.std.proofs.Common.{◌≡◌, ◌++◌, take, length}
use Rattle.std.specs.Prelude.{decimal}
use Rattle.std.specs.List.{flat_map, AllByRecursion}
use Rattle.line_grammar.specs.declared.ends.End.TheVariants.{Line}
use Rattle.line_grammar.specs.Dashes.{number_form}
use Rattle.line_grammar.specs.Laws.{IsNumberOf}
use Rattle.line_grammar.specs.Writing.{spaced_number}
use Rattle.script_text.proofs.writing.put_children.Given as goal
use Rattle.job_values.specs.declared.limits.TheConstants.{LAST_JOB_ID}

abbrev pub invariant-loop-child : goal.invariant-loop-child
invariant-loop-child l =
    (l.out.items ≡ (l.fn.out.items ++ decimal (length l.children)) ++ flat_map spaced_number (take l.child-index l.children))
    × AllByRecursion (IsNumberOf (number_form 1 LAST_JOB_ID Line)) (take l.child-index l.children)
