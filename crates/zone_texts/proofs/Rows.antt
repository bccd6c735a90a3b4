-- Zone texts and texts that are none, as the definitions read them.
use Rattle.std.proofs.Common.{◌≡◌, ℕ, ℤ, pos, negsuc, Result, Some, Ok, Err, refl}
use Rattle.std.specs.Prelude.{codes}
use Rattle.job_values.specs.declared.fault.ZoneFault.{ZoneFault}
use Rattle.zone_texts.specs.declared.zone.Zone.{Zone}
use Rattle.zone_texts.specs.Changes.{Change}
use Rattle.zone_texts.specs.ZoneText.{fixed}
use Rattle.zone_texts.specs.Parsed.{zone_parsed}

abbrev at : ℕ → ℕ → ℕ → ℕ → Change
at month week day time = record { month = month; week = week; day = day; time = time }

abbrev moving : ℤ → ℤ → Change → Change → Result Zone ZoneFault
moving standard daylight begin end = Ok (record { standard = standard; rules = Some (record { daylight = daylight; begin = begin; end = end }) })

abbrev fault : ℕ → Result Zone ZoneFault
fault place = Err (record { place = place })

five_west : zone_parsed (codes "EST5") (pos 0) ≡ Ok (fixed (negsuc 17999))
unfolding zone_parsed
five_west = refl

no_offset : zone_parsed (codes "EST") (pos 0) ≡ fault 4
unfolding zone_parsed
no_offset = refl

no_rules : zone_parsed (codes "EST5EDT") (pos 0) ≡ fault 8
unfolding zone_parsed
no_rules = refl

hour_25 : zone_parsed (codes "EST25") (pos 0) ≡ fault 5
unfolding zone_parsed
hour_25 = refl

hour_15 : zone_parsed (codes "EST15") (pos 0) ≡ fault 5
unfolding zone_parsed
hour_15 = refl

late_minutes : zone_parsed (codes "EST14:59") (pos 0) ≡ Ok (fixed (negsuc 53939))
unfolding zone_parsed
late_minutes = refl

quoted_name : zone_parsed (codes "<-03>3") (pos 0) ≡ Ok (fixed (negsuc 10799))
unfolding zone_parsed
quoted_name = refl

east : zone_parsed (codes "<+0530>-05:30") (pos 0) ≡ Ok (fixed (pos 19800))
unfolding zone_parsed
east = refl

long_name : zone_parsed (codes "ABCDEFGHI5") (pos 0) ≡ fault 9
unfolding zone_parsed
long_name = refl

nothing_behind : zone_parsed (codes "EST5 ") (pos 0) ≡ fault 5
unfolding zone_parsed
nothing_behind = refl

new_york : zone_parsed (codes "EST5EDT,M3.2.0,M11.1.0") (pos 0) ≡ moving (negsuc 17999) (negsuc 14399) (at 3 2 0 7200) (at 11 1 0 7200)
unfolding zone_parsed
new_york = refl

paris : zone_parsed (codes "CET-1CEST,M3.5.0,M10.5.0/3") (pos 0) ≡ moving (pos 3600) (pos 7200) (at 3 5 0 7200) (at 10 5 0 10800)
unfolding zone_parsed
paris = refl

sydney : zone_parsed (codes "AEST-10AEDT,M10.1.0,M4.1.0/3") (pos 0) ≡ moving (pos 36000) (pos 39600) (at 10 1 0 7200) (at 4 1 0 10800)
unfolding zone_parsed
sydney = refl

own_daylight : zone_parsed (codes "AAA3BBB2:30,M1.1.6,M12.5.1/24:59") (pos 0) ≡ moving (negsuc 10799) (negsuc 8999) (at 1 1 6 7200) (at 12 5 1 89940)
unfolding zone_parsed
own_daylight = refl

month_13 : zone_parsed (codes "EST5EDT,M13.2.0") (pos 0) ≡ fault 11
unfolding zone_parsed
month_13 = refl

month_03 : zone_parsed (codes "EST5EDT,M03.2.0") (pos 0) ≡ fault 10
unfolding zone_parsed
month_03 = refl

week_6 : zone_parsed (codes "EST5EDT,M3.6.0") (pos 0) ≡ fault 12
unfolding zone_parsed
week_6 = refl

one_rule : zone_parsed (codes "EST5EDT,M3.2.0") (pos 0) ≡ fault 15
unfolding zone_parsed
one_rule = refl

-- the empty text
empty : zone_parsed (codes "") (pos 28800) ≡ Ok (fixed (pos 28800))
unfolding zone_parsed
empty = refl
