use Rattle.scan_plans.proofs.pages.page_at.Given as goal

abbrev pub ghosts-uncounted_ids : goal.ghosts-uncounted_ids
ghosts-uncounted_ids a = record { name = a.blank.name; parts = a.blank.parts }
