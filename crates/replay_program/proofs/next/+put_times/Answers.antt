-- The first time stands before the others.
use Rattle.std.proofs.Common.{sym}
use Rattle.std.proofs.lemmas.Result.{on_ok_weaker}
use Rattle.replay_program.proofs.TimesLemmas.{told_more}
use Rattle.replay_program.proofs.next.+put_times.Goals as goal

pub returns-in_ok-put_moment-in-Some : goal.returns-in_ok-put_moment-in-Some
returns-in_ok-put_moment-in-Some t c =
    on_ok_weaker c.put_times.result
    (told_more c.args.schedule.now c.args.zone.now c.args.count c.args.at c.in-Some.next c.args.out.now.items c.put_moment.new.out.items c.put_times.new.out.items
    c.if-count-eq0.false (sym c.in-Some.ensures) c.in_ok-put_moment-in-Some.ensures)
    c.put_times.ensures
