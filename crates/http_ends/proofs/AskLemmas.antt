-- What a dialer shows after an ask.
use Rattle.std.proofs.Common.{◌≡◌, ◌∙◌, ℕ, ◌≤◌, Bool, true, false, nat_lt, List, [], ◌∷◌, ◌++◌, length, Option, Some, None, Result, Ok, Err, ap, refl, arith}
use Rattle.std.proofs.lemmas.Bool.{false≢true}
use Rattle.outside.specs.declared.dialed.Dialed.{Dialed}
use Rattle.outside.specs.declared.dialed.Shown.{Shown}
use Rattle.outside.specs.Causes.{Rose}
use Rattle.outside.specs.Dials.{dial_of, AddsDial, IsFresh, shown_of, hung_up, HangsUp, TakesUp}
use Rattle.outside.proofs.DialLemmas.{hung_up-last}
use Rattle.http_reading.specs.declared.response.Response.{Response}
use Rattle.http_reading.specs.declared.fault.HttpFault.{HttpFault}
use Rattle.http_ends.specs.Addresses.{Address}
use Rattle.http_ends.specs.declared.asking.AskFault.{AskFault}
use Rattle.http_ends.specs.declared.asking.AskFault.TheVariants.{DialFault, Http}
use Rattle.http_ends.specs.Asking.{Carries, ShowsExchange, ShowsAsk, is_dial_fault, AsksOnce}

-- the answer of an ask whose link was dialed
abbrev pub of_link : Result Response HttpFault → Result Response AskFault
of_link (Ok response) = Ok response
of_link (Err fault) = Err (Http fault)

shows : (text : List ℕ) (seen taken : Option (List ℕ)) (met : Bool) (count : ℕ) (result : Result Response HttpFault) → Carries text seen taken met (nat_lt 0 count) result → ShowsExchange (shown_of seen taken met count) text result
shows text seen taken met count result carries = record {
  told = record { written = carries.written; read = carries.read; met = met; faulted = nat_lt 0 count };
  is = rw (carries.seen_is, carries.taken_is);
  exchanged = carries.exchanged;
}

shows_ask : (shown : Option Shown) (text : List ℕ) (result : Result Response HttpFault) → ShowsExchange shown text result → ShowsAsk shown text (of_link result)
shows_ask shown text (Ok response) s = s
shows_ask shown text (Err fault) s = s

no_dial_fault : (result : Result Response HttpFault) → false ≡ is_dial_fault (of_link result)
no_dial_fault (Ok response) = refl
no_dial_fault (Err fault) = refl

-- the dial of an ask whose link was dialed is the last, and shows what the link carried
pub asked_once : (old mid new : Option (List Dialed)) (a : Address) (text : List ℕ) (at : ℕ) (seen taken seen' taken' : Option (List ℕ)) (met met' : Bool) (count count' : ℕ) (result : Result Response HttpFault)
    → AddsDial old mid (dial_of a.host a.port false) → IsFresh old at seen taken met count
    → (seen ≡ Some [] → taken ≡ Some [] → met ≡ false → Carries text seen' taken' met' (nat_lt 0 count') result)
    → HangsUp mid new at (shown_of seen' taken' met' count') → AsksOnce old new a text (of_link result)
asked_once None mid new a text at seen taken seen' taken' met met' count count' result adds fresh carries hangs = tt
asked_once (Some ds) None new a text at seen taken seen' taken' met met' count count' result adds fresh carries hangs = absurd (false≢true adds)
asked_once (Some ds) (Some es) None a text at seen taken seen' taken' met met' count count' result adds fresh carries hangs = absurd hangs
asked_once (Some ds) (Some es) (Some fs) a text at seen taken seen' taken' met met' count count' result adds fresh carries hangs =
    let shown = shown_of seen' taken' met' count' in
    let dial : Dialed = record { host = a.host; port = a.port; failed = false; shown = shown } in
    let place : at ≡ length ds = fresh.place in
    let last : fs ≡ ds ++ dial ∷ [] = hangs ∙ ap (λ zs. hung_up zs at shown) adds ∙ ap (λ n. hung_up (ds ++ dial_of a.host a.port false ∷ []) n shown) place ∙ hung_up-last ds (dial_of a.host a.port false) shown in (
      dial,
      last,
      record {
        host = refl;
        port = refl;
        failed = no_dial_fault result;
        shown = shows_ask shown text result (shows text seen' taken' met' count' result (carries fresh.seen fresh.taken fresh.met));
      },
    )

-- the dial of an ask that was refused is the last, and shows nothing
pub refused_once : (old new : Option (List Dialed)) (a : Address) (text : List ℕ) → AddsDial old new (dial_of a.host a.port true) → AsksOnce old new a text (Err DialFault)
refused_once None new a text adds = tt
refused_once (Some ds) None a text adds = refl
refused_once (Some ds) (Some es) a text adds = (dial_of a.host a.port true, adds, record { host = refl; port = refl; failed = refl; shown = refl })

-- the dialer's count rose where that of its fresh link did
pub link_rose : (old mid new count count' : ℕ) → old ≤ mid → count ≡ 0 → Rose count count' → TakesUp mid count' new → Rose old new
link_rose old mid new count count' later fresh rose takes = let all = takes.all in omega arith
