use Rattle.std.proofs.Common.{◌≡◌, take}
use Rattle.spool_text.specs.Spool.{spool_text}
use Rattle.spool_text.proofs.Written.{AreReadAgain}
use Rattle.spool_text.proofs.writing.write_spool.Given as goal

abbrev pub invariant-loop-item : goal.invariant-loop-item
invariant-loop-item l = record {
  text : l.bytes.items ≡ spool_text (take l.item-index l.item-items);
  again : AreReadAgain (take l.item-index l.item-items);
}
