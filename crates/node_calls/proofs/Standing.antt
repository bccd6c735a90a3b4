-- Each entry that a connection's seat gains is of a request that stands in the bytes of its link.
use Rattle.std.proofs.Common.{◌≡◌, ℕ, zero, suc, ◌+◌, ◌<◌, List, [], ◌∷◌, ◌++◌, length, Option, None, Some, refl, sym, ap, ◌∙◌, subst, arith}
use Rattle.std.specs.Prelude.{All}
use Rattle.turn_lock.specs.Seats.{SeatView}
use Rattle.turn_lock.specs.Gains.{Gains, Grew}
use Rattle.turn_lock.proofs.Gains.{grew_none, grew_then, grew_gains}
use Rattle.http_reading.specs.declared.request.Request.{Request}
use Rattle.http_reading.specs.Requests.{Reads, TakesRequest}
use Rattle.node_calls.specs.declared.serving.End.{End}
use Rattle.node_calls.specs.declared.serving.Served.{Served}
use Rattle.node_calls.specs.Exchanges.{Exchange, requests_of, entries_of, Each, ReadsEach, TakesEach, Scene, Goes, Finishes, Serves}
use Rattle.node_calls.specs.Standing.{StandsAt, StandsIn}
use Rattle.node_calls.proofs.Rounds.{reads_push}

pub each_all : {A : Type 0} (Q : A → Type 0) (es : List A) → Each Q es → All Q es
each_all Q [] each k d lt = absurd (omega arith)
each_all Q (e ∷ es) each zero d lt = each.0
each_all Q (e ∷ es) each (suc k) d lt = each_all Q es each.1 k d (omega arith)

each_append : {A : Type 0} (Q : A → Type 0) (es fs : List A) → Each Q es → Each Q fs → Each Q (es ++ fs)
each_append Q [] fs a b = b
each_append Q (e ∷ es) fs a b = (a.0, each_append Q es fs a.1 b)

last_stands : (left rest left' : Option (List ℕ)) (rs : List Request) (r : Request) → TakesEach left rs rest → TakesRequest rest left' r → StandsIn left r
last_stands None rest left' rs r each takes = tt
last_stands (Some bytes) None left' rs r each takes = absurd each
last_stands (Some bytes) (Some middle) None rs r each takes = absurd takes
last_stands (Some bytes) (Some middle) (Some rest) rs r each takes = record { before = rs; middle = middle; rest = rest; reads = each; is = takes }

module _ {E R : Type 0} (answers : Exchange E R → Type 0) (Q : E × R → Type 0) where
  told_are : (bytes : List ℕ) (before : List Request) (middle : List ℕ) (rest : List ℕ) (xs : List (Exchange E R)) → ((x : Exchange E R) → answers x → StandsAt bytes x.request → Each Q x.entries)
      → ReadsEach bytes before middle → ReadsEach middle (requests_of xs) rest → Each answers xs → Each Q (entries_of xs)
  told_are bytes before middle rest [] f done reads are = tt
  told_are bytes before middle rest (x ∷ xs) f done reads are =
      each_append Q x.entries (entries_of xs)
      (f x are.0 (record { before = before; middle = middle; rest = reads.0; reads = done; is = reads.1 }))
      (told_are bytes (before ++ x.request ∷ []) reads.0 rest xs f (reads_push bytes before middle x.request reads.0 done reads.1) reads.2 are.1)

  untold_are : (xs : List (Exchange E R)) → ((x : Exchange E R) → answers x → Each Q x.entries) → Each answers xs → Each Q (entries_of xs)
  untold_are [] f are = tt
  untold_are (x ∷ xs) f are = each_append Q x.entries (entries_of xs) (f x are.0) (untold_are xs f are.1)

  pub goes_are : (left rest : Option (List ℕ)) (xs : List (Exchange E R)) → ((x : Exchange E R) → answers x → StandsIn left x.request → Each Q x.entries) → TakesEach left (requests_of xs) rest → Each answers xs → Each Q (entries_of xs)
  goes_are None rest xs f takes are = untold_are xs (λ x a. f x a tt) are
  goes_are (Some bytes) None xs f takes are = absurd takes
  goes_are (Some bytes) (Some rest) xs f takes are = told_are bytes [] bytes rest xs f refl takes are

module _ {O E R X : Type 0} (legal : O → List (E × R) → Type 0) (answers : Exchange E R → Type 0) (Q : E × R → Type 0) where
  finishes_grew : (mid new : Scene O E R X) (left rest : Option (List ℕ)) (rs : List Request) (last : Option (Exchange E R)) (end : End) → ((x : Exchange E R) → answers x → StandsIn left x.request → Each Q x.entries) → TakesEach left rs rest
      → Finishes legal answers mid new rest last end → Grew Q mid.seat new.seat
  finishes_grew mid new left rest rs None end f takes fin = subst (λ (s : SeatView O E R X). Grew Q mid.seat s) (sym fin.seat) (grew_none Q mid.seat)
  finishes_grew mid new left rest rs (Some x) end f takes fin =
      grew_gains Q legal mid.seat new.seat x.entries fin.2.gained (each_all Q x.entries (f x fin.2.is (last_stands left rest fin.0 rs x.request takes fin.1)))

  -- a connection was served: each entry that its seat gained is Q, where this holds of each exchange whose request stands in the link's bytes
  pub serves_grew : (old new : Scene O E R X) (left : Option (List ℕ)) (served : Served) → ((x : Exchange E R) → answers x → StandsIn left x.request → Each Q x.entries) → Serves legal answers old new left served → Grew Q old.seat new.seat
  serves_grew old new left served f s =
      grew_then Q old.seat s.mid.seat new.seat
      (grew_gains Q legal old.seat s.mid.seat (entries_of s.before) s.goes.gained (each_all Q (entries_of s.before) (goes_are answers Q left s.rest s.before f s.goes.front s.goes.are)))
      (finishes_grew s.mid new left s.rest (requests_of s.before) s.last served.end f s.goes.front s.finishes)
