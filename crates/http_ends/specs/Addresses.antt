-- Addresses: `http://`, a host, `:`, a port, and a path or none.
use Rattle.std.specs.Prelude.{◌≡◌, ℕ, ◌-◌, ◌≤◌, ◌<◌, ◌==◌, ◌↔◌, Bool, ◌&&◌, ◌||◌, IsTrue, nat_le, List, [], ◌∷◌, ◌++◌, length, slice_index, codes, decimal, if◌then◌else◌}
use Rattle.std.specs.Char.{is_ascii_alphanumeric}
use Rattle.std.specs.List.{list_all}

-- a letter, a digit, `.` or `-`
abbrev pub is_host_byte : ℕ → Bool
is_host_byte b = is_ascii_alphanumeric b || b == 46 || b == 45

-- a graphic character of ASCII
abbrev pub is_path_byte : ℕ → Bool
is_path_byte b = nat_le 33 b && nat_le b 126

-- no byte of the list is this one
abbrev pub LacksByte : ℕ → List ℕ → Type 0
LacksByte b bytes = (k : ℕ) → k < length bytes → slice_index bytes k ≡ b → ⊥

-- a path, or none: `/`, and then graphic characters of ASCII
abbrev pub IsPath : List ℕ → Type 0
IsPath [] = Unit {0}
IsPath (b ∷ bs) = (b ≡ 47) × IsTrue (list_all is_path_byte bs)

-- a path with a slash at its end
abbrev pub closed_path : List ℕ → List ℕ
closed_path path = if slice_index path (length path - 1) == 47 then path else path ++ 47 ∷ []

-- what an address names; the base begins and ends with a slash
pub record Address : Type 0 where
  pub host : List ℕ
  pub port : ℕ
  pub base : List ℕ

-- these bytes are an address, and this is what they name
pub record IsAddress (bytes : List ℕ) (address : Address) : Type 0 where
  pub path : List ℕ
  pub text : bytes ≡ codes "http://" ++ (address.host ++ 58 ∷ (decimal address.port ++ path))
  pub some : 0 < length address.host
  pub host : IsTrue (list_all is_host_byte address.host)
  pub least : 1 ≤ address.port
  pub most : address.port ≤ 65535
  pub graphic : IsPath path
  pub base : address.base ≡ closed_path path

-- these bytes are no address
abbrev pub NoAddress : List ℕ → Type 0
NoAddress bytes = (address : Address) → IsAddress bytes address → ⊥

-- a path begins with a slash, or is none
abbrev pub BeginsPath : List ℕ → Type 0
BeginsPath [] = Unit {0}
BeginsPath (b ∷ bs) = b ≡ 47

-- a text is the scheme, a host, `:`, digits and a path, of which this is what follows its slash
pub record IsDivided (bytes host digits tail : List ℕ) : Type 0 where
  pub path : List ℕ
  pub text : bytes ≡ codes "http://" ++ (host ++ 58 ∷ (digits ++ path))
  pub begins : BeginsPath path
  pub closed : closed_path path ≡ closed_path (47 ∷ tail)
  pub graphic : IsPath path ↔ IsTrue (list_all is_path_byte tail)
  pub host_lacks : LacksByte 58 host
  pub digits_lack : LacksByte 47 digits

-- what an address names that is so divided
abbrev pub address_of : List ℕ → ℕ → List ℕ → Address
address_of host port tail = record { host = host; port = port; base = closed_path (47 ∷ tail) }

-- bytes are an address of one thing at most
abbrev pub AddressesNameOne : Type 0
AddressesNameOne = (bytes : List ℕ) (a b : Address) → IsAddress bytes a → IsAddress bytes b → a ≡ b
