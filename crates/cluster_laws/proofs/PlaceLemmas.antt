-- Each step puts at most one ticket, and no ticket is put twice.
use Rattle.std.proofs.Common.{◌≡◌, ℕ, ◌+◌, ◌≤◌, List, [], ◌∷◌, ◌++◌, eqb, Option, Some, None, map, refl, sym, subst, arith, append-nil}
use Rattle.std.specs.List.{count_by}
use Rattle.job_events.specs.declared.cluster.ClusterEvent.{ClusterEvent}
use Rattle.job_events.specs.declared.cluster.ClusterEvent.TheVariants.{ScanStep}
use Rattle.cluster_history.specs.History.{History, Begin, After, places}
use Rattle.cluster_history.specs.Looks.{Looked}
use Rattle.cluster_history.specs.Jobs.{scan_of, look_of}
use Rattle.cluster_history.specs.Tickets.{Waiting, put_behind, put_due}
use Rattle.cluster_laws.specs.Dues.{dues_of}
use Rattle.cluster_laws.specs.Fates.{Put, aged, put_new, puts_of}
use Rattle.cluster_laws.specs.Told.{PlacesRise, is_put_for}
use Rattle.cluster_history.proofs.Counting.{count-append, count-map}
use Rattle.cluster_laws.proofs.OnceLemmas.{waits_for, step-covers}

-- a ticket keeps its place
rise-aged : (e : ClusterEvent) (place low last : ℕ) (puts : List Put) → PlacesRise low puts last → PlacesRise low (map (aged e place) puts) last
rise-aged e place low last [] rise = rise
rise-aged e place low last (put ∷ puts) rise = (rise.0, rise-aged e place put.place last puts rise.1)

rise-more : (low last : ℕ) (puts : List Put) → PlacesRise low puts last → PlacesRise low puts (last + 1)
rise-more low last [] rise = let end : low ≤ last = rise in omega arith
rise-more low last (put ∷ puts) rise = (rise.0, rise-more put.place last puts rise.1)

rise-push : (low last : ℕ) (ticket : Waiting) (puts : List Put) → PlacesRise low puts last → PlacesRise low (puts ++ put_new (last + 1) ticket ∷ []) (last + 1)
rise-push low last ticket [] rise = let end : low ≤ last = rise in (omega arith, omega arith)
rise-push low last ticket (put ∷ puts) rise = (rise.0, rise-push put.place last ticket puts rise.1)

rise-none : (low last : ℕ) (puts : List Put) → PlacesRise low puts last → PlacesRise low (puts ++ []) (last + 1)
rise-none low last puts rise = let P : List Put → Type 0 = λ ps. PlacesRise low ps (last + 1) in subst P (sym (append-nil puts)) (rise-more low last puts rise)

rise-due : (low last admin job edition : ℕ) (put : Option ℕ) (puts : List Put) → PlacesRise low puts last → PlacesRise low (puts ++ map (put_new (last + 1)) (put_due admin job edition put [])) (last + 1)
rise-due low last admin job edition None puts rise = rise-none low last puts rise
rise-due low last admin job edition (Some due) puts rise = rise-push low last (record { admin = admin; ticket = record { job = job; edition = edition; due = due } }) puts rise

rise-look : (low last admin : ℕ) (look : Option Looked) (puts : List Put) → PlacesRise low puts last → PlacesRise low (puts ++ map (put_new (last + 1)) (put_behind admin look [])) (last + 1)
rise-look low last admin None puts rise = rise-none low last puts rise
rise-look low last admin (Some look) puts rise = rise-due low last admin look.row.id look.row.edition look.decision.put puts rise

pub places-rise : (h : History) → PlacesRise 0 (puts_of h) (places h)
places-rise (Begin o) = omega arith
places-rise (After h (ScanStep admin) r) =
    rise-look 0 (places h) admin (look_of h) (map (aged (ScanStep admin) (places h + 1)) (puts_of h)) (rise-aged (ScanStep admin) (places h + 1) 0 (places h) (puts_of h) (places-rise h))
places-rise (After h e r) =
    rise-none 0 (places h) (map (aged e (places h + 1)) (puts_of h)) (rise-aged e (places h + 1) 0 (places h) (puts_of h) (places-rise h))

-- the tickets that were put for a due time are no more than the looks at it
count-aged : (e : ClusterEvent) (place j d t : ℕ) (puts : List Put) → count_by (is_put_for j d t) (map (aged e place) puts) ≡ count_by (is_put_for j d t) puts
count-aged e place j d t puts = count-map (is_put_for j d t) (aged e place) puts

pub puts-covered : (h : History) (j d t : ℕ) → count_by (is_put_for j d t) (puts_of h) ≤ count_by (λ x. eqb t x) (dues_of h j d)
puts-covered (Begin o) j d t = omega arith
puts-covered (After h (ScanStep admin) r) j d t =
    let before : count_by (is_put_for j d t) (puts_of h) + count_by (waits_for j d t) [] ≤ count_by (λ x. eqb t x) (dues_of h j d) = omega (arith, puts-covered h j d t) in
    omega (
      arith,
      count-append (is_put_for j d t) (map (aged (ScanStep admin) (places h + 1)) (puts_of h)) (map (put_new (places h + 1)) (put_behind admin (look_of h) [])),
      count-aged (ScanStep admin) (places h + 1) j d t (puts_of h),
      count-map (is_put_for j d t) (put_new (places h + 1)) (put_behind admin (look_of h) []),
      step-covers h j d t admin (count_by (is_put_for j d t) (puts_of h)) (scan_of h) (look_of h) [] (dues_of h j d) refl before,
    )
puts-covered (After h e r) j d t =
    omega (
      arith,
      count-append (is_put_for j d t) (map (aged e (places h + 1)) (puts_of h)) [],
      count-aged e (places h + 1) j d t (puts_of h),
      puts-covered h j d t,
    )
