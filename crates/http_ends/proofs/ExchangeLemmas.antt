-- What a fresh link tells after a request was written and a response was read.
use Rattle.std.proofs.Common.{◌≡◌, ℕ, Bool, true, false, ◌||◌, nat_lt, List, [], length, Option, Some, None, Result, Ok, Err, IfOk, IfErr, sym, ap, refl, subst, arith}
use Rattle.std.proofs.Math.Seq.{take-length}
use Rattle.std.proofs.lemmas.Bool.{lt-ltb}
use Rattle.std.specs.Io.KnownBytes.{Appends}
use Rattle.outside.specs.Causes.{Rose}
use Rattle.http_reading.specs.declared.response.Response.{Response}
use Rattle.http_reading.specs.declared.fault.HttpFault.{HttpFault}
use Rattle.http_reading.specs.declared.fault.HttpFault.TheVariants.{LinkFault}
use Rattle.http_reading.specs.Responses.{ReadsAnswer, HasAnswerFault, HearsAnswer, HearsFault}
use Rattle.http_ends.specs.Asking.{Carries}

-- what was appended to nothing is all
pub appended : (old new : Option (List ℕ)) (bytes : List ℕ) → old ≡ Some [] → Appends old new bytes → new ≡ Some bytes
appended None new bytes e h = let never : ⊥ = cc in absurd never
appended (Some xs) None bytes e h = absurd h
appended (Some xs) (Some ys) bytes e h =
    let none : xs ≡ [] = cc in
    let all : ys ≡ bytes = rw none at h in
    ap (λ zs. Some zs) all

-- a count that rose is above 0
pub rose_above : (before now : ℕ) → Rose before now → nat_lt 0 now ≡ true
rose_above before now rose = lt-ltb 0 now (omega arith)

ended_is : (met ended now : Bool) → met ≡ false → now ≡ (met || ended) → ended ≡ now
ended_is met ended now none is = let first : now ≡ (false || ended) = rw none at is in sym first

-- the whole request was written, and this was read
pub carried_whole : (text : List ℕ) (left left' seen seen' taken : Option (List ℕ)) (met met' faulted : Bool) (result : Result Response HttpFault)
    → seen ≡ Some [] → met ≡ false → taken ≡ Some text
    → IfOk result (HearsAnswer left left' seen seen' met met') → IfErr result (HearsFault left left' seen seen' met met')
    → (result ≡ Err LinkFault → faulted ≡ true)
    → Carries text seen' taken met' faulted result
carried_whole text left left' seen seen' taken met met' faulted (Ok response) fresh open_end whole heard nothing cause = record {
  written = text;
  read = heard.bytes;
  seen_is = appended seen seen' heard.bytes fresh heard.heard.told;
  taken_is = whole;
  exchanged = record {
    count = length text;
    front = sym (take-length text);
    whole = λ _ _. refl;
    answer = (heard.rest, subst (λ (e : Bool). ReadsAnswer heard.bytes e response heard.rest) (ended_is met heard.ended met' open_end heard.heard.end) heard.is);
    cause = cause;
  };
}
carried_whole text left left' seen seen' taken met met' faulted (Err fault) fresh open_end whole nothing heard cause = record {
  written = text;
  read = heard.bytes;
  seen_is = appended seen seen' heard.bytes fresh heard.heard.told;
  taken_is = whole;
  exchanged = record {
    count = length text;
    front = sym (take-length text);
    whole = λ _ _. refl;
    answer = subst (λ (e : Bool). HasAnswerFault heard.bytes e fault) (ended_is met heard.ended met' open_end heard.heard.end) heard.is;
    cause = cause;
  };
}
