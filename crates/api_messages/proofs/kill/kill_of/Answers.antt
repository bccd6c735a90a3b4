use Rattle.std.proofs.lemmas.Result.{err_from_is_err_and}
use Rattle.api_messages.proofs.Rows.{here, next, done}
use Rattle.api_messages.proofs.kill.kill_of.Goals as goal

pub returns-in_err-job_id : goal.returns-in_err-job_id
returns-in_err-job_id c =
    let p = err_from_is_err_and c.from_residual.result c.from_residual.ensures.1 in
    rw (p.1, p.2) (here _ _ _ _ _ c.in_err-job_id.ensures)

pub returns : goal.returns
returns c = next _ _ _ _ _ _ c.in_ok-job_id.ensures (done _ _)
