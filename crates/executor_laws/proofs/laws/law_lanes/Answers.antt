use Rattle.executor_history.specs.History.{accepted}
use Rattle.executor_laws.proofs.Free.{free_of}
use Rattle.executor_laws.proofs.Lanes.{one_runs}
use Rattle.executor_laws.proofs.Queue.{runs_is}
use Rattle.executor_laws.proofs.laws.law_lanes.Goals as goal

pub returns-clause-one : goal.returns-clause-one
returns-clause-one c = one_runs

pub returns-clause-runs : goal.returns-clause-runs
returns-clause-runs c = λ h number legal. runs_is (accepted h) number (free_of h legal)
