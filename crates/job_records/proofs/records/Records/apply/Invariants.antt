use Rattle.std.proofs.Common.{◌≡◌, ◌-◌, ◌≤◌, drop, vec_len}
use Rattle.job_records.specs.Changes.{applied_all, AreAllowed}
use Rattle.job_records.specs.Room.{HasRoom}
use Rattle.job_records.proofs.records.Records.apply.Given as goal

abbrev pub invariant-loop-at : goal.invariant-loop-at
invariant-loop-at l = record {
  within : l.at ≤ vec_len l.changes;
  kept : applied_all l.self.kept (drop l.at l.changes.items) ≡ applied_all l.fn.self.kept l.fn.changes;
  allowed : AreAllowed l.self.kept (drop l.at l.changes.items);
  room : HasRoom l.self.room (drop l.at l.changes.items);
}

abbrev pub decreases-loop-at : goal.decreases-loop-at
decreases-loop-at l = vec_len l.changes - l.at
