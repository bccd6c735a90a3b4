use Rattle.std.proofs.Common.{arith}
use Rattle.jiff_core.proofs.SignedLemmas.{signed_casts}
use Rattle.cron_schedule.proofs.cron.years_since_1970.Goals as goal

pub returns : goal.returns
returns c = record {
  some = (omega (arith, signed_casts, c.args.date.now.year_in), omega (arith, signed_casts, c.args.date.now.year_in));
  none = tt;
}
