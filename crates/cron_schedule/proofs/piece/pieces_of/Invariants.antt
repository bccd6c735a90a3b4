use Rattle.std.proofs.Common.{◌≡◌, ◌++◌, ◌≤◌, drop}
use Rattle.cron_schedule.specs.Pieces.{pieces, pieces_from}
use Rattle.cron_schedule.proofs.piece.pieces_of.Given as goal

abbrev pub invariant-loop-start : goal.invariant-loop-start
invariant-loop-start l = record {
  scan : pieces l.text ≡ l.found.items ++ pieces_from l.field l.before l.start (drop l.start l.text);
  small : l.field ≤ l.start;
}
