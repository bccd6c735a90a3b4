use Rattle.std.proofs.Common.{◌≡◌, ◌<◌, ◌≤◌, ◌-◌, get_or, length, arith, ap}
use Rattle.std.proofs.lemmas.Bool.{leb-true, le-leb}
use Rattle.rising_rows.proofs.RowLemmas.{rising-last, rising-all}
use Rattle.job_records.proofs.allow.ends_by.Goals as goal

pub returns-in-Some : goal.returns-in-Some
returns-in-Some g c =
    let id_of = g.R.Keyed.key_of in
    let rows = c.args.rows.now in
    let end = c.in-Some.row.now in
    let some : 0 < length rows = c.in-Some.ensures.item.3.0 in
    let is : end ≡ get_or rows (length rows - 1) end = c.in-Some.ensures.item.1 in
    let id : c.key.result ≡ id_of end = c.key.ensures in (
      λ t.
          let within : c.key.result ≤ c.args.last = leb-true c.key.result c.args.last t in
          rising-last id_of c.args.last rows end c.requires is (omega arith),
      λ rising.
          let within : id_of (get_or rows (length rows - 1) end) ≤ c.args.last = rising-all id_of 0 c.args.last rows rising (length rows - 1) end (omega arith) in
          le-leb c.key.result c.args.last (omega (arith, ap id_of is)),
    )
