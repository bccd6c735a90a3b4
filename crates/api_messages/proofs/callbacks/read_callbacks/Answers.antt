use Rattle.api_messages.proofs.Items.{of_array}
use Rattle.api_messages.specs.Reading.{callbacks_at}
use Rattle.api_messages.proofs.callbacks.read_callbacks.Goals as goal

pub returns-in-Some : goal.returns-in-Some
unfolding callbacks_at
returns-in-Some c = record { gives = rw (c.in_ok-value.ensures, of_array _ _ c.in-Some.ensures, ← c.deref.ensures.value) c.results_of.ensures }
