use Rattle.std.proofs.Common.{sym}
use Rattle.rising_rows.proofs.PlaceLemmas.{row-read, row-absent}
use Rattle.rising_rows.proofs.look_ups.row_of.Goals as goal

pub returns-in-Ok : goal.returns-in-Ok
returns-in-Ok g c =
    sym (row-read g.R.Keyed.key_of c.args.key c.args.rows.now c.in-Ok.place c.index-rows-place.result c.in-Ok.ensures c.index-rows-place.is)

pub returns-in-Err : goal.returns-in-Err
returns-in-Err g c = sym (row-absent g.R.Keyed.key_of c.args.key c.args.rows.now c.in-Err.field-0 c.in-Err.ensures)
