use Rattle.std.proofs.Common.{sym}
use Rattle.rising_rows.proofs.PlaceLemmas.{has-found, has-absent}
use Rattle.rising_rows.proofs.look_ups.has_row.Goals as goal

pub returns-in-Ok : goal.returns-in-Ok
returns-in-Ok g c = sym (has-found g.R.Keyed.key_of c.args.key c.args.rows.now c.in-Ok.field-0 c.in-Ok.ensures)

pub returns-in-Err : goal.returns-in-Err
returns-in-Err g c = sym (has-absent g.R.Keyed.key_of c.args.key c.args.rows.now c.in-Err.field-0 c.in-Err.ensures)
