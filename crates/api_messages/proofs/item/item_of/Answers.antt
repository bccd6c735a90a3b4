use Rattle.std.proofs.Common.{rules}
use Rattle.std.proofs.lemmas.Int.{to_z-of_z}
use mir.Syntax.{w32}
use mir.Val.{SFits}
use Rattle.std.proofs.lemmas.Result.{err_from_is_err_and}
use Rattle.api_messages.proofs.OneItem.{told_then, told_fails}
use Rattle.api_messages.proofs.Rows.{later, here, next, done}
use Rattle.api_messages.proofs.item.item_of.Goals as goal

pub returns-in_err-told : goal.returns-in_err-told
returns-in_err-told c =
    let p = err_from_is_err_and c.from_residual.result c.from_residual.ensures.1 in
    rw (p.1, p.2) (told_fails _ _ c.in_err-told.ensures)

pub returns-in_err-log_moment : goal.returns-in_err-log_moment
returns-in_err-log_moment c =
    let p = err_from_is_err_and c.from_residual-in_err-log_moment.result c.from_residual-in_err-log_moment.ensures.1 in
    rw (p.1, p.2, told_then _ _ c.in_ok-told.ensures) (here _ _ _ _ _ c.in_err-log_moment.ensures)

pub returns-in_err-log : goal.returns-in_err-log
returns-in_err-log c =
    let p = err_from_is_err_and c.from_residual-in_err-log.result c.from_residual-in_err-log.ensures.1 in
    rw (p.1, p.2, told_then _ _ c.in_ok-told.ensures) (later _ _ _ _ _ _ c.in_ok-log_moment.ensures (here _ _ _ _ _ c.in_err-log.ensures))

pub returns : goal.returns
returns c =
    let code : SFits w32 c.in_ok-told.told.code = search rules in
    rw (told_then _ _ c.in_ok-told.ensures) (simp (to_z-of_z) (next _ _ _ _ _ _ c.in_ok-log_moment.ensures (next _ _ _ _ _ _ c.in_ok-log.ensures (done _ _))))
