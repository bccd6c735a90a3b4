-- What an address names is known from its bytes.
use Rattle.std.proofs.Common.{◌≡◌, ◌∙◌, ℕ, zero, suc, ◌<◌, ◌≤◌, Bool, true, false, ◌&&◌, IsTrue, List, [], ◌∷◌, ◌++◌, length, get_or, nat_eq, codes, decimal, sym, ap, refl, subst, arith}
use Rattle.std.proofs.lemmas.Bool.{false≢true, eqb-true}
use Rattle.std.specs.List.{list_all}
use Rattle.std.specs.Str.Parse.{digits_value}
use Rattle.std.proofs.lemmas.Str.Parse.{digit_at}
use Rattle.std.proofs.lemmas.Fmt.{decimal_is_IsNumeral}
use Rattle.http_ends.specs.Addresses.{LacksByte, is_host_byte, is_path_byte, IsPath, BeginsPath, closed_path, Address, IsAddress, IsDivided}

-- a list without its first byte still lacks what the list lacks
lacks_rest : (b x : ℕ) (xs : List ℕ) → LacksByte b (x ∷ xs) → LacksByte b xs
lacks_rest b x xs lacks = λ k below is. lacks (suc k) (omega arith) is

lacks_first : (b x : ℕ) (xs : List ℕ) → LacksByte b (x ∷ xs) → x ≡ b → ⊥
lacks_first b x xs lacks is = lacks 0 (omega arith) is

-- two lists are cut at the first such byte in one way
pub same_before : (b : ℕ) (xs ys us vs : List ℕ) → LacksByte b xs → LacksByte b ys → xs ++ b ∷ us ≡ ys ++ b ∷ vs → (xs ≡ ys) × (us ≡ vs)
same_before b [] [] us vs p q e = let rest : us ≡ vs = cc in (refl, rest)
same_before b [] (y ∷ ys) us vs p q e = let first : y ≡ b = cc in absurd (lacks_first b y ys q first)
same_before b (x ∷ xs) [] us vs p q e = let first : x ≡ b = cc in absurd (lacks_first b x xs p first)
same_before b (x ∷ xs) (y ∷ ys) us vs p q e =
    let first : x ≡ y = cc in
    let rest : xs ++ b ∷ us ≡ ys ++ b ∷ vs = cc in
    let both = same_before b xs ys us vs (lacks_rest b x xs p) (lacks_rest b y ys q) rest in
    let same : x ∷ xs ≡ y ∷ ys = cc (first, both.0) in
    (same, both.1)

-- two lists are cut where a path begins in one way
pub same_before_path : (xs ys us vs : List ℕ) → LacksByte 47 xs → LacksByte 47 ys → BeginsPath us → BeginsPath vs → xs ++ us ≡ ys ++ vs → (xs ≡ ys) × (us ≡ vs)
same_before_path [] [] us vs p q f g e = (refl, e)
same_before_path [] (y ∷ ys) [] vs p q f g e = let never : ⊥ = cc in absurd never
same_before_path [] (y ∷ ys) (u ∷ us) vs p q f g e = let first : y ≡ 47 = cc in absurd (lacks_first 47 y ys q first)
same_before_path (x ∷ xs) [] us [] p q f g e = let never : ⊥ = cc in absurd never
same_before_path (x ∷ xs) [] us (v ∷ vs) p q f g e = let first : x ≡ 47 = cc in absurd (lacks_first 47 x xs p first)
same_before_path (x ∷ xs) (y ∷ ys) us vs p q f g e =
    let first : x ≡ y = cc in
    let rest : xs ++ us ≡ ys ++ vs = cc in
    let both = same_before_path xs ys us vs (lacks_rest 47 x xs p) (lacks_rest 47 y ys q) f g rest in
    let same : x ∷ xs ≡ y ∷ ys = cc (first, both.0) in
    (same, both.1)

-- what a list lacks does not stand between two lists of which it is made
pub lacks_none : (b : ℕ) (xs ys : List ℕ) → LacksByte b (xs ++ b ∷ ys) → ⊥
lacks_none b [] ys lacks = lacks_first b b ys lacks refl
lacks_none b (x ∷ xs) ys lacks = lacks_none b xs ys (lacks_rest b x (xs ++ b ∷ ys) lacks)

and_right : (a b : Bool) → IsTrue (a && b) → IsTrue b
and_right true b h = h
and_right false b h = absurd (false≢true h)

host_byte_at : (host : List ℕ) (k : ℕ) → IsTrue (list_all is_host_byte host) → k < length host → get_or host k 0 ≡ 58 → ⊥
host_byte_at [] k all below is = absurd (omega arith)
host_byte_at (x ∷ xs) zero all below is =
    let Passes : ℕ → Type 0 = λ y. IsTrue (list_all is_host_byte (y ∷ xs)) in false≢true (subst Passes is all)
host_byte_at (x ∷ xs) (suc k) all below is = host_byte_at xs k (and_right _ _ all) (omega arith) is

-- a host has no colon
pub host_lacks_colon : (host : List ℕ) → IsTrue (list_all is_host_byte host) → LacksByte 58 host
host_lacks_colon host all = λ k below is. host_byte_at host k all below is

-- the digits of a port have no slash
pub port_lacks_slash : (port : ℕ) → port ≤ 65535 → LacksByte 47 (decimal port)
port_lacks_slash port most = λ k below is.
    let digits = (decimal_is_IsNumeral port (omega arith)).0 in
    let range = digit_at (decimal port) k digits.1 below in
    omega arith

-- a path begins as one
pub begins_path : (path : List ℕ) → IsPath path → BeginsPath path
begins_path [] p = tt
begins_path (x ∷ xs) p = p.0

-- what follows the scheme is the same in both
pub same_behind_scheme : (bytes us vs : List ℕ) → bytes ≡ codes "http://" ++ us → bytes ≡ codes "http://" ++ vs → us ≡ vs
same_behind_scheme bytes us vs p q = cc

-- an address is divided into what it names
pub record SameParts (host digits tail : List ℕ) (address : Address) : Type 0 where
  pub host_is : host ≡ address.host
  pub digits_are : digits ≡ decimal address.port
  pub graphic : IsTrue (list_all is_path_byte tail)

pub divided_is : (bytes host digits tail : List ℕ) (address : Address) → IsDivided bytes host digits tail → IsAddress bytes address → SameParts host digits tail address
divided_is bytes host digits tail address divided is =
    let behind = same_behind_scheme bytes _ _ divided.text is.text in
    let hosts = same_before 58 host address.host (digits ++ divided.path) (decimal address.port ++ is.path) divided.host_lacks (host_lacks_colon address.host is.host) behind in
    let ports = same_before_path digits (decimal address.port) divided.path is.path divided.digits_lack (port_lacks_slash address.port is.most) divided.begins (begins_path is.path is.graphic) hosts.1 in
    record {
      host_is = hosts.0;
      digits_are = ports.0;
      graphic = divided.graphic.0 (subst IsPath (sym ports.1) is.graphic);
    }

-- a host that is empty is no host
pub not_empty : (host : List ℕ) (address : Address) → host ≡ address.host → 0 < length address.host → nat_eq (length host) 0 ≡ true → ⊥
not_empty host address same some none = let zero = eqb-true _ _ none in let e = ap length same in omega arith

same_port : (m n : ℕ) → m ≤ 65535 → n ≤ 65535 → decimal m ≡ decimal n → m ≡ n
same_port m n p q e =
    let by : digits_value 10 (decimal m) ≡ digits_value 10 (decimal n) = ap (digits_value 10) e in
    sym (decimal_is_IsNumeral m (omega arith)).1 ∙ by ∙ (decimal_is_IsNumeral n (omega arith)).1

abbrev address_with : List ℕ → ℕ → List ℕ → Address
address_with host port base = record { host = host; port = port; base = base }

same_address : (h h' : List ℕ) (p p' : ℕ) (b b' : List ℕ) → h ≡ h' → p ≡ p' → b ≡ b' → address_with h p b ≡ address_with h' p' b'
same_address h h' p p' b b' hosts ports bases = cc

-- bytes are an address of one thing at most
pub one_address : (bytes : List ℕ) (a b : Address) → IsAddress bytes a → IsAddress bytes b → a ≡ b
one_address bytes a b p q =
    let behind = same_behind_scheme bytes _ _ p.text q.text in
    let hosts = same_before 58 a.host b.host (decimal a.port ++ p.path) (decimal b.port ++ q.path) (host_lacks_colon a.host p.host) (host_lacks_colon b.host q.host) behind in
    let ports = same_before_path (decimal a.port) (decimal b.port) p.path q.path (port_lacks_slash a.port p.most) (port_lacks_slash b.port q.most) (begins_path p.path p.graphic) (begins_path q.path q.graphic) hosts.1 in
    let port = same_port a.port b.port p.most q.most ports.0 in
    let base : a.base ≡ b.base = p.base ∙ ap closed_path ports.1 ∙ sym q.base in
    same_address a.host b.host a.port b.port a.base b.base hosts.0 port base
