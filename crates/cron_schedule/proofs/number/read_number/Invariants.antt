use Rattle.std.proofs.Common.{◌≡◌, ◌^◌, ◌<◌, true, take}
use Rattle.std.specs.Char.{is_ascii_digit}
use Rattle.std.specs.List.{list_all}
use Rattle.cron_schedule.specs.Number.{digits_value}
use Rattle.cron_schedule.proofs.number.read_number.Given as goal

abbrev pub invariant-loop-byte : goal.invariant-loop-byte
invariant-loop-byte l = record {
  value : l.value ≡ digits_value (take l.byte-index l.text);
  digits : list_all is_ascii_digit (take l.byte-index l.text) ≡ true;
  bound : l.value < 10 ^ l.byte-index;
}
