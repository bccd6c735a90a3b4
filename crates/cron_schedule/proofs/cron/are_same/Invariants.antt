use Rattle.std.proofs.Common.{◌≡◌, take}
use Rattle.cron_schedule.proofs.cron.are_same.Given as goal

abbrev pub invariant-loop-place : goal.invariant-loop-place
invariant-loop-place l = take l.place l.items ≡ take l.place l.others
