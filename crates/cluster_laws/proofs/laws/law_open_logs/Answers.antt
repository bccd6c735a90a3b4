use Rattle.cluster_history.specs.History.{accepted}
use Rattle.cluster_history.proofs.Answered.{legal_answered, accepted_opens}
use Rattle.cluster_history.proofs.Stops.{same-times, open_count}
use Rattle.cluster_laws.proofs.laws.law_open_logs.Goals as goal

pub returns : goal.returns
returns c h legal a = record {
  each = same-times (accepted h) (accepted_opens h legal) (legal_answered h legal) a;
  count = open_count (accepted h) (accepted_opens h legal) (legal_answered h legal) a;
}
