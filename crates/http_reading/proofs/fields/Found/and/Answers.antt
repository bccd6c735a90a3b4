use Rattle.std.proofs.Common.{subst}
use Rattle.http_reading.specs.Found.{IsFound}
use Rattle.http_reading.proofs.FieldLemmas.{found_second, found_more}
use Rattle.http_reading.proofs.fields.Found.and.Goals as goal

pub returns-in-One : goal.returns-in-One
returns-in-One c = λ bytes values within is.
    found_second bytes values c.in-One.first c.args.value (subst (λ f. IsFound bytes f values) c.in-One.is is)

pub returns-in-More : goal.returns-in-More
returns-in-More c = λ bytes values within is.
    found_more bytes values c.in-More.first c.args.value (subst (λ f. IsFound bytes f values) c.in-More.is is)
