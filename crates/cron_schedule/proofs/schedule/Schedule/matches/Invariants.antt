use Rattle.cron_schedule.proofs.schedule.Schedule.matches.Given as goal

abbrev pub ghosts-uncounted_matches : goal.ghosts-uncounted_matches
ghosts-uncounted_matches a = record { name = a.blank.name; parts = a.blank.parts }
