use Rattle.cron_schedule.proofs.schedule.Schedule.after.Given as goal

abbrev pub ghosts-uncounted_after : goal.ghosts-uncounted_after
ghosts-uncounted_after a = record { name = a.blank.name; parts = a.blank.parts }
