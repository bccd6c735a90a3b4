use Rattle.std.proofs.Common.{rules}
use Rattle.std.proofs.lemmas.Int.{to_z-of_z}
use mir.Syntax.{w32}
use mir.Val.{SFits}
use Rattle.std.proofs.lemmas.Result.{err_from_is_err_and}
use Rattle.api_messages.proofs.Rows.{later, here, next, done}
use Rattle.api_messages.proofs.log_answer.log_answer_of.Goals as goal

pub returns-in_err-from_line_num : goal.returns-in_err-from_line_num
returns-in_err-from_line_num c =
    let p = err_from_is_err_and c.from_residual.result c.from_residual.ensures.1 in
    rw (p.1, p.2) (here _ _ _ _ _ c.in_err-from_line_num.ensures)

pub returns-in_err-is_end : goal.returns-in_err-is_end
returns-in_err-is_end c =
    let p = err_from_is_err_and c.from_residual-in_err-is_end.result c.from_residual-in_err-is_end.ensures.1 in
    rw (p.1, p.2) (later _ _ _ _ _ _ c.in_ok-from_line_num.ensures (here _ _ _ _ _ c.in_err-is_end.ensures))

pub returns-in_err-log_content : goal.returns-in_err-log_content
returns-in_err-log_content c =
    let p = err_from_is_err_and c.from_residual-in_err-log_content.result c.from_residual-in_err-log_content.ensures.1 in
    rw (p.1, p.2) (later _ _ _ _ _ _ c.in_ok-from_line_num.ensures (later _ _ _ _ _ _ c.in_ok-is_end.ensures (here _ _ _ _ _ c.in_err-log_content.ensures)))

pub returns-in_err-to_line_num : goal.returns-in_err-to_line_num
returns-in_err-to_line_num c =
    let p = err_from_is_err_and c.from_residual-in_err-to_line_num.result c.from_residual-in_err-to_line_num.ensures.1 in
    rw (p.1, p.2) (later _ _ _ _ _ _ c.in_ok-from_line_num.ensures (later _ _ _ _ _ _ c.in_ok-is_end.ensures (later _ _ _ _ _ _ c.in_ok-log_content.ensures (here _ _ _ _ _ c.in_err-to_line_num.ensures))))

pub returns : goal.returns
returns c =
    let from_line_num : SFits w32 c.in_ok-from_line_num.from_line_num = search rules in
    let to_line_num : SFits w32 c.in_ok-to_line_num.to_line_num = search rules in
    simp (to_z-of_z) (next _ _ _ _ _ _ c.in_ok-from_line_num.ensures (next _ _ _ _ _ _ c.in_ok-is_end.ensures (next _ _ _ _ _ _ c.in_ok-log_content.ensures (next _ _ _ _ _ _ c.in_ok-to_line_num.ensures (done _ _)))))
