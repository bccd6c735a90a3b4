use Rattle.replay_program.proofs.next.+put_times.Given as goal

abbrev pub decreases-put_times : goal.decreases-put_times
decreases-put_times l = l.count
