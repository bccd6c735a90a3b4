-- Fixed rates: texts of a number of seconds.
use Rattle.std.specs.Prelude.{ℕ, List, ◌&&◌, nat_le, Option, Some, None, if◌then◌else◌}
use Rattle.cron_schedule.specs.Number.{number_of}

-- a number of seconds that a rate may have
abbrev pub rate_in_range : Option ℕ → Option ℕ
rate_in_range None = None
rate_in_range (Some seconds) = if nat_le 1 seconds && nat_le seconds 2147483647 then Some seconds else None

-- the seconds of a fixed rate's text: one to ten digits, a number from 1 to 2,147,483,647
abbrev pub rate_of : List ℕ → Option ℕ
rate_of text = rate_in_range (number_of 10 text)
