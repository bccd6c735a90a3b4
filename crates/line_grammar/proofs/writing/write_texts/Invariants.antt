use Rattle.std.proofs.Common.{◌≡◌, ◌++◌, take, length}
use Rattle.std.specs.Prelude.{decimal}
use Rattle.std.specs.List.{flat_map, AllByRecursion}
use Rattle.line_grammar.specs.declared.ends.End.TheVariants.{Line}
use Rattle.line_grammar.specs.Texts.{text_form}
use Rattle.line_grammar.specs.Laws.{IsTextOf}
use Rattle.line_grammar.specs.Writing.{spaced_text}
use Rattle.line_grammar.proofs.writing.write_texts.Given as goal

abbrev pub invariant-loop-text : goal.invariant-loop-text
invariant-loop-text g l =
    (l.out.items ≡ (l.fn.out.items ++ decimal (length l.texts)) ++ flat_map spaced_text (take l.text-index l.texts))
    × AllByRecursion (IsTextOf (text_form g.row.LEAST g.row.MOST Line)) (take l.text-index l.texts)
