-- The tickets that a turn fires.
use Rattle.std.specs.Prelude.{ℕ, List, Bool}
use Rattle.job_values.specs.declared.words.TriggerKind.TheVariants.{Cron}
use Rattle.job_events.specs.declared.opened.FiredTicket.{FiredTicket}
use Rattle.job_records.specs.Tables.{Tables}
use Rattle.time_ring.specs.declared.ticket.Ticket.{Ticket}
use Rattle.log_opening.specs.Series.{Series, FiresAll}
use Rattle.scan_plans.specs.declared.turns.Turned.{Turned}

-- tickets fire at the moment of their turn, and each is told with its edition and its due time
abbrev pub tickets_at : ℕ → Series Ticket FiredTicket
tickets_at at = record {
  job_of = λ ticket. ticket.job;
  kind = Cron;
  time = at;
  tell = λ ticket opened. record { job = ticket.job; edition = ticket.edition; due = ticket.due; opened = opened };
}

-- tickets fire behind those before; false exactly where an id would pass its greatest value
abbrev pub FiresTickets : Tables → ℕ → List Ticket → Turned → Turned → Bool → Type 0
FiresTickets t at tickets before after fits =
    FiresAll (tickets_at at) t tickets before.openings after.openings before.fired.items after.fired.items fits
