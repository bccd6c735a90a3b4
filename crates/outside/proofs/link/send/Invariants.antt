use Rattle.std.proofs.Common.{◌≡◌, ◌-◌, ◌≤◌, length, take}
use Rattle.std.specs.Io.KnownBytes.{Appends}
use Rattle.outside.proofs.link.send.Given as goal

-- the bytes that are done were written, nothing else changed, and no fault is forgotten
abbrev pub invariant-loop-done : goal.invariant-loop-done
invariant-loop-done g l = record {
  within : l.done ≤ length l.bytes;
  written : Appends (g.L.Link.taken l.initial.link) (g.L.Link.taken l.link) (take l.done l.bytes);
  other : g.L.Link.left l.link ≡ g.L.Link.left l.initial.link;
  seen : g.L.Link.seen l.link ≡ g.L.Link.seen l.initial.link;
  end : g.L.Link.met l.link ≡ g.L.Link.met l.initial.link;
  place : g.L.Link.dial l.link ≡ g.L.Link.dial l.initial.link;
  later : g.L.Link.faults l.initial.link ≤ g.L.Link.faults l.link;
}

abbrev pub decreases-loop-done : goal.decreases-loop-done
decreases-loop-done g l = length l.bytes - l.done
