use Rattle.std.proofs.Common.{sym}
use Rattle.rising_rows.proofs.PlaceLemmas.{from-found, from-absent}
use Rattle.rising_rows.proofs.look_ups.place_from.Goals as goal

pub returns-in-Ok : goal.returns-in-Ok
returns-in-Ok g c = sym (from-found g.R.Keyed.key_of c.args.key c.args.rows.now c.in-Ok.place c.in-Ok.ensures)

pub returns-in-Err : goal.returns-in-Err
returns-in-Err g c = sym (from-absent g.R.Keyed.key_of c.args.key c.args.rows.now c.in-Err.place c.in-Err.ensures)
