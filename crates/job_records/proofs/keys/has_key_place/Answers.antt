use Rattle.std.proofs.Common.{◌≡◌, ◌<◌, inl, inr, length, refl, arith}
use Rattle.std.proofs.lemmas.Bool.{ltb-true, lt-ltb}
use Rattle.job_values.specs.declared.limits.TheConstants.{MOST_OF_KEY}
use Rattle.job_records.specs.Rules.{count_of_key}
use Rattle.job_records.proofs.AllowLemmas.{found-registered, absent-place}
use Rattle.job_records.proofs.keys.has_key_place.Goals as goal

pub returns-in-Ok : goal.returns-in-Ok
returns-in-Ok c =
    let seat = rw (c.as_str.ensures, c.as_str-2.ensures) at c.in-Ok.ensures in
    (λ _. inl (found-registered c.args.row.now.key c.args.row.now.value c.args.rows.now _ seat), λ _. refl)

pub returns-then-rows-lt-MOST_REGISTRATIONS : goal.returns-then-rows-lt-MOST_REGISTRATIONS
returns-then-rows-lt-MOST_REGISTRATIONS c =
    let seat = rw (c.as_str.ensures, c.as_str-2.ensures) at c.in-Err.ensures in
    let count : c.rows_of_key.result ≡ count_of_key c.args.row.now.key c.args.rows.now =
    rw c.as_str-then-rows-lt-MOST_REGISTRATIONS.ensures at c.rows_of_key.ensures in (
      λ t.
          let fewer : c.rows_of_key.result < MOST_OF_KEY = ltb-true c.rows_of_key.result 256 t in
          inr (c.if-rows-lt-MOST_REGISTRATIONS.true, rw (← count) fewer),
      λ place.
          let fewer : count_of_key c.args.row.now.key c.args.rows.now < MOST_OF_KEY = (absent-place c.args.row.now c.args.rows.now _ seat place).1 in
          lt-ltb c.rows_of_key.result 256 (rw count fewer),
    )

pub returns-else-rows-lt-MOST_REGISTRATIONS : goal.returns-else-rows-lt-MOST_REGISTRATIONS
returns-else-rows-lt-MOST_REGISTRATIONS c =
    let seat = rw (c.as_str.ensures, c.as_str-2.ensures) at c.in-Err.ensures in (
      λ t. let fewer : length c.args.rows.now < 65536 = ltb-true (length c.args.rows.now) 65536 t in absurd (omega arith),
      λ place. lt-ltb (length c.args.rows.now) 65536 (absent-place c.args.row.now c.args.rows.now _ seat place).0,
    )
