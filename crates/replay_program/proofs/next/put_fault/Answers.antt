-- The text of a fault has four pieces.
use Rattle.std.proofs.Common.{[], ◌∷◌, codes}
use Rattle.line_grammar.specs.Writing.{spaced_number}
use Rattle.replay_program.proofs.TimesLemmas.{four_pieces}
use Rattle.replay_program.proofs.next.put_fault.Goals as goal

pub returns : goal.returns
returns c =
    four_pieces (codes "bad schedule") (spaced_number c.args.fault.field) (spaced_number c.args.fault.place) (10 ∷ [])
    c.args.out.now.items c.push_bytes.new.out.items c.put_number.new.out.items c.put_number-2.new.out.items c.push_bytes-2.new.out.items
    c.in_ok-push_bytes.ensures c.in_ok-put_number.ensures c.in_ok-put_number-2.ensures c.in_ok-push_bytes-2.ensures
