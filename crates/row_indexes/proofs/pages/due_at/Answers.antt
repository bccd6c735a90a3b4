use Rattle.std.proofs.Common.{◌∙◌}
use Rattle.row_indexes.proofs.PageLemmas.{due-some, due-none}
use Rattle.row_indexes.proofs.pages.due_at.Goals as goal

pub returns-in-Some-clause-job : goal.returns-in-Some-clause-job
returns-in-Some-clause-job g c =
    c.job_if_due.ensures ∙ due-some c.args.bound c.args.index.now.keys c.args.place c.in-Some.entry c.entry_at.ensures.rising c.in-Some.ensures.entry

pub returns-in-None-clause-job : goal.returns-in-None-clause-job
returns-in-None-clause-job g c = due-none c.args.bound c.args.index.now.keys c.args.place c.entry_at.ensures.rising c.in-None.ensures.entry
