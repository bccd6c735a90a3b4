-- A line that ends with a spec is read as the spec and what stands for it, and a spec as its zone behind its other words.
use Rattle.std.proofs.Common.{◌≡◌, ℕ, List, Result, Ok, ap, ◌∙◌}
use Rattle.job_values.specs.declared.spec.JobSpec.{JobSpec}
use Rattle.line_grammar.specs.declared.ends.End.{End}
use Rattle.line_grammar.specs.declared.faults.ReadError.{ReadError}
use Rattle.line_grammar.specs.declared.faults.ReadError.TheVariants.{Memory, Bad}
use Rattle.line_grammar.specs.Reading.{◌>>=◌, Fails}
use Rattle.line_grammar.specs.Grammar.{Grammar, reading}
use Rattle.line_grammar.specs.Parts.{and_then}
use Rattle.line_grammar.proofs.PartLaws.{part_reading}
use Rattle.script_text.specs.Lines.{zone, zone_at, spec, spec_at}

spec_then : {E : Type 0} (next : JobSpec → Grammar E) (bytes : List ℕ) → reading (and_then spec next) bytes ≡ (spec_at bytes >>= λ x. reading (next x.0) x.1)
unfolding spec_at
spec_then next bytes = part_reading spec next bytes

pub spec_gives : {E : Type 0} (next : JobSpec → Grammar E) (bytes : List ℕ) (s : JobSpec) (rest : List ℕ) → spec_at bytes ≡ Ok (s, rest) → reading (and_then spec next) bytes ≡ reading (next s) rest
spec_gives next bytes s rest read = spec_then next bytes ∙ ap (λ (r : Result (JobSpec × List ℕ) ℕ). r >>= λ x. reading (next x.0) x.1) read

pub spec_fails : {E : Type 0} (next : JobSpec → Grammar E) (bytes : List ℕ) (e : ReadError) → Fails e (spec_at bytes) → Fails e (reading (and_then spec next) bytes)
spec_fails next bytes Memory read = tt
spec_fails next bytes (Bad left) read = spec_then next bytes ∙ ap (λ (r : Result (JobSpec × List ℕ) ℕ). r >>= λ x. reading (next x.0) x.1) read

zone_then : {E : Type 0} (end : End) (next : List ℕ → Grammar E) (bytes : List ℕ) → reading (and_then (zone end) next) bytes ≡ (zone_at end bytes >>= λ x. reading (next x.0) x.1)
unfolding zone_at
zone_then end next bytes = part_reading (zone end) next bytes

pub zone_gives : {E : Type 0} (end : End) (next : List ℕ → Grammar E) (bytes z rest : List ℕ) → zone_at end bytes ≡ Ok (z, rest) → reading (and_then (zone end) next) bytes ≡ reading (next z) rest
zone_gives end next bytes z rest read = zone_then end next bytes ∙ ap (λ (r : Result (List ℕ × List ℕ) ℕ). r >>= λ x. reading (next x.0) x.1) read

pub zone_fails : {E : Type 0} (end : End) (next : List ℕ → Grammar E) (bytes : List ℕ) (e : ReadError) → Fails e (zone_at end bytes) → Fails e (reading (and_then (zone end) next) bytes)
zone_fails end next bytes Memory read = tt
zone_fails end next bytes (Bad left) read = zone_then end next bytes ∙ ap (λ (r : Result (List ℕ × List ℕ) ℕ). r >>= λ x. reading (next x.0) x.1) read
