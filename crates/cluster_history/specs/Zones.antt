-- The clock that a job's times are told by.
use Rattle.std.specs.Prelude.{ℤ, Result, Ok, Err}
use Rattle.job_values.specs.declared.spec.JobSpec.{JobSpec}
use Rattle.job_values.specs.declared.fault.ZoneFault.{ZoneFault}
use Rattle.zone_texts.specs.declared.zone.Zone.{Zone}
use Rattle.zone_texts.specs.ZoneText.{fixed}
use Rattle.zone_texts.specs.Parsed.{zone_parsed}
use Rattle.cluster_history.specs.declared.settings.Settings.{Settings}

-- what the zone of a spec says; an empty text says the offset of the settings
abbrev pub zone_in : Settings → JobSpec → Result Zone ZoneFault
zone_in settings spec = zone_parsed spec.zone settings.offset

-- a text that says no zone stands for the offset of the settings
abbrev pub zone_said : ℤ → Result Zone ZoneFault → Zone
zone_said offset (Ok zone) = zone
zone_said offset (Err fault) = fixed offset

-- the zone of a job
abbrev pub zone_of : Settings → JobSpec → Zone
zone_of settings spec = zone_said settings.offset (zone_in settings spec)
