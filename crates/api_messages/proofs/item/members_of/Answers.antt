use Rattle.std.proofs.Common.{rules}
use Rattle.std.proofs.lemmas.Int.{to_z-of_z}
use mir.Syntax.{w32}
use mir.Val.{SFits}
use Rattle.std.proofs.lemmas.Result.{err_from_is_err_and}
use Rattle.api_messages.proofs.Rows.{later, here, next, done}
use Rattle.api_messages.proofs.item.members_of.Goals as goal

pub returns-in_err-code : goal.returns-in_err-code
returns-in_err-code c =
    let p = err_from_is_err_and c.from_residual.result c.from_residual.ensures.1 in
    rw (p.1, p.2) (here _ _ _ _ _ c.in_err-code.ensures)

pub returns-in_err-msg : goal.returns-in_err-msg
returns-in_err-msg c =
    let p = err_from_is_err_and c.from_residual-in_err-msg.result c.from_residual-in_err-msg.ensures.1 in
    rw (p.1, p.2) (later _ _ _ _ _ _ c.in_ok-code.ensures (here _ _ _ _ _ c.in_err-msg.ensures.value))

pub returns : goal.returns
returns c =
    let code : SFits w32 c.in_ok-code.code = search rules in
    simp (to_z-of_z, c.of.ensures) (next _ _ _ _ _ _ c.in_ok-code.ensures (next _ _ _ _ _ _ c.in_ok-msg.ensures.value (done _ _)))
