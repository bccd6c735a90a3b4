use Rattle.settle_log.proofs.losses.first_lost.Given as goal

abbrev pub ghosts-uncounted_lost : goal.ghosts-uncounted_lost
ghosts-uncounted_lost a = record { name = a.blank.name; parts = a.blank.parts }
