use Rattle.std.proofs.lemmas.Result.{err_from_is_err_and}
use Rattle.api_messages.proofs.Rows.{later, here, next, done}
use Rattle.api_messages.proofs.registry.registry_of.Goals as goal

pub returns-in_err-registry_group : goal.returns-in_err-registry_group
returns-in_err-registry_group c =
    let p = err_from_is_err_and c.from_residual.result c.from_residual.ensures.1 in
    rw (p.1, p.2) (here _ _ _ _ _ c.in_err-registry_group.ensures)

pub returns-in_err-registry_key : goal.returns-in_err-registry_key
returns-in_err-registry_key c =
    let p = err_from_is_err_and c.from_residual-in_err-registry_key.result c.from_residual-in_err-registry_key.ensures.1 in
    rw (p.1, p.2) (later _ _ _ _ _ _ c.in_ok-registry_group.ensures (here _ _ _ _ _ c.in_err-registry_key.ensures))

pub returns-in_err-registry_value : goal.returns-in_err-registry_value
returns-in_err-registry_value c =
    let p = err_from_is_err_and c.from_residual-in_err-registry_value.result c.from_residual-in_err-registry_value.ensures.1 in
    rw (p.1, p.2) (later _ _ _ _ _ _ c.in_ok-registry_group.ensures (later _ _ _ _ _ _ c.in_ok-registry_key.ensures (here _ _ _ _ _ c.in_err-registry_value.ensures)))

pub returns : goal.returns
returns c = next _ _ _ _ _ _ c.in_ok-registry_group.ensures (next _ _ _ _ _ _ c.in_ok-registry_key.ensures (next _ _ _ _ _ _ c.in_ok-registry_value.ensures (done _ _)))
