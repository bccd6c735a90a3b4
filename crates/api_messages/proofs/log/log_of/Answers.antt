use Rattle.std.proofs.Common.{rules}
use Rattle.std.proofs.lemmas.Int.{to_z-of_z}
use mir.Syntax.{w32, w64}
use mir.Val.{SFits}
use Rattle.std.proofs.lemmas.Result.{err_from_is_err_and}
use Rattle.api_messages.proofs.Rows.{later, here, next, done}
use Rattle.api_messages.proofs.log.log_of.Goals as goal

pub returns-in_err-from_line_num : goal.returns-in_err-from_line_num
returns-in_err-from_line_num c =
    let p = err_from_is_err_and c.from_residual.result c.from_residual.ensures.1 in
    rw (p.1, p.2) (here _ _ _ _ _ c.in_err-from_line_num.ensures)

pub returns-in_err-log_date_tim : goal.returns-in_err-log_date_tim
returns-in_err-log_date_tim c =
    let p = err_from_is_err_and c.from_residual-in_err-log_date_tim.result c.from_residual-in_err-log_date_tim.ensures.1 in
    rw (p.1, p.2) (later _ _ _ _ _ _ c.in_ok-from_line_num.ensures (here _ _ _ _ _ c.in_err-log_date_tim.ensures.value))

pub returns-in_err-log_id : goal.returns-in_err-log_id
returns-in_err-log_id c =
    let p = err_from_is_err_and c.from_residual-in_err-log_id.result c.from_residual-in_err-log_id.ensures.1 in
    rw (p.1, p.2) (later _ _ _ _ _ _ c.in_ok-from_line_num.ensures (later _ _ _ _ _ _ c.in_ok-log_date_tim.ensures.value (here _ _ _ _ _ c.in_err-log_id.ensures)))

pub returns : goal.returns
returns c =
    let from_line_num : SFits w32 c.in_ok-from_line_num.from_line_num = search rules in
    let log_date_tim : SFits w64 c.in_ok-log_date_tim.log_date_tim = search rules in
    simp (to_z-of_z) (next _ _ _ _ _ _ c.in_ok-from_line_num.ensures (next _ _ _ _ _ _ c.in_ok-log_date_tim.ensures.value (next _ _ _ _ _ _ c.in_ok-log_id.ensures (done _ _))))
