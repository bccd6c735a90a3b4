-- The order of the registrations.
use Rattle.std.specs.Prelude.{◌≡◌, ℕ, List, AllPairs, bytes_eq, Bool, ◌&&◌}
use Rattle.std.specs.declared.cmp.Ordering.{Ordering}
use Rattle.std.specs.declared.cmp.Ordering.TheVariants.{Less}
use Rattle.std.specs.Ordering.{nat_cmp, ordering_then}
use Rattle.std.specs.Cmp.Lexicographic.{slice_cmp}
use Rattle.job_records.specs.declared.registry.RegistryRow.{RegistryRow}

-- how a registration compares with a key and a value: by the bytes of the keys, then by those of the values
abbrev pub key_order : List ℕ → List ℕ → RegistryRow → Ordering
key_order key value row = ordering_then (slice_cmp nat_cmp row.key key) (slice_cmp nat_cmp row.value value)

-- the registrations rise by key, and within a key by value
abbrev pub RisesByKey : List RegistryRow → Type 0
RisesByKey rows = AllPairs (λ row later. key_order later.key later.value row ≡ Less) rows

-- whether a registration has this key and this value
abbrev pub is_registered : List ℕ → List ℕ → RegistryRow → Bool
is_registered key value row = bytes_eq row.key key && bytes_eq row.value value
