-- Runs of events go on as legal histories.
use Rattle.std.proofs.Common.{[], ◌∷◌, refl}
use Rattle.cluster_history.specs.History.{After}
use Rattle.cluster_history.specs.Replies.{reply_of}
use Rattle.cluster_history.specs.Runs.{RunsAreLegal}

pub runs-legal : RunsAreLegal
runs-legal h [] legal within = legal
runs-legal h (e ∷ es) legal within = runs-legal (After h e (reply_of h e)) es (legal, within.0, refl) within.1
