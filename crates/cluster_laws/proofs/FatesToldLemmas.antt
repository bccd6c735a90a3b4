-- The fates are told.
use Rattle.std.proofs.Common.{ℕ, arith}
use Rattle.cron_schedule.specs.After.{TimesRise}
use Rattle.cluster_history.specs.History.{accepted}
use Rattle.cluster_history.proofs.Answered.{legal_answered, legal_within, accepted_opens}
use Rattle.cluster_laws.specs.Dues.{dues_of}
use Rattle.cluster_laws.specs.Told.{EachFateTold}
use Rattle.cluster_laws.proofs.RiseLemmas.{dues-hold}
use Rattle.cluster_laws.proofs.OnceLemmas.{all-once}
use Rattle.cluster_laws.proofs.PlaceLemmas.{places-rise, puts-covered}
use Rattle.cluster_laws.proofs.ToldLemmas.{fired-all, lost-told}

pub fates-told : TimesRise → EachFateTold
fates-told rise h legal =
    let answered = legal_answered h legal in
    let holds = λ (j d : ℕ). dues-hold rise (accepted h) j d (accepted_opens h legal) in
    record {
      placed = places-rise (accepted h);
      once = λ j d t. omega (arith, puts-covered (accepted h) j d t, all-once t (dues_of (accepted h) j d) (holds j d).falls);
      taken = fired-all (accepted h) answered;
      lost = lost-told (accepted h) answered (legal_within h legal);
    }
