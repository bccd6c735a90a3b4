use Rattle.std.proofs.Common.{ap, arith, ◌∷◌, [], ◌∙◌}
use Rattle.shared_counter.specs.Counting.{Stands}
use Rattle.shared_counter.proofs.Deals.{both_done, both_made, made_by, dealt, opening_done}
use Rattle.shared_counter.proofs.callers.count_by_four.Goals as goal

pub returns : goal.returns
returns g c =
    let start = c.in_ok-shared.seat in
    let last = c.join.new.seat in
    let first = c.in_ok-shared.ensures in
    let rest = c.in_ok-other.ensures.rest in
    let new = c.in_ok-other.ensures.new in
    let j = c.join.ensures in
    let closed = c.close-entries.ensures in
    let left = rw c.in_ok-seat.was at c.join-left.ensures.first in
    let right = rw c.in_ok-other-2.was at c.join-left.ensures.second in
    let ess = c.in_ok-seat.first.items ∷ c.in_ok-seat.second.items ∷ [] in
    let fss = c.in_ok-other-2.third.items ∷ c.in_ok-other-2.fourth.items ∷ [] in
    let all = c.in_ok-seat.first.items ∷ c.in_ok-seat.second.items ∷ c.in_ok-other-2.third.items ∷ c.in_ok-other-2.fourth.items ∷ [] in
    let done = both_done start c.split.new.seat c.in_ok-other.other c.in_ok-seat.seat c.in_ok-other-2.other last ess fss (ap (λ s. s.shared) rest) (ap (λ s. s.opening) rest)
    (let a = ap (λ s. s.parts) rest in let b = ap (λ s. s.parts) new in let e = ap (λ s. s.parts) first in omega arith)
    left.0
    right.0
    j.joined
    j.grows
    j.told in
    let made = both_made c.args.by c.args.acts start c.split.new.seat c.in_ok-other.other c.in_ok-seat.seat c.in_ok-other-2.other last ess fss (ap (λ s. s.opening) rest) (ap (λ s. s.opening) new) left.0 right.0 j.joined j.grows j.told left.1 right.1 in
    let stands = opening_done c.args.counter start last all (λ o. Stands o last.seen c.close-entries.result.0) (ap (λ s. s.opening) first) done closed.machine in
    let opening = done.same.opening ∙ ap (λ s. s.opening) first in
    record {
      log = last.seen;
      stands = stands;
      entries = closed.entries;
      first = made_by c.args.by c.args.acts c.args.counter c.close-entries.result.0 last c.in_ok-seat.first.items opening stands made.0;
      second = made_by c.args.by c.args.acts c.args.counter c.close-entries.result.0 last c.in_ok-seat.second.items opening stands made.1.0;
      third = made_by c.args.by c.args.acts c.args.counter c.close-entries.result.0 last c.in_ok-other-2.third.items opening stands made.1.1.0;
      fourth = made_by c.args.by c.args.acts c.args.counter c.close-entries.result.0 last c.in_ok-other-2.fourth.items opening stands made.1.1.1.0;
      dealt = dealt last.seen all last.own done.owns closed.own;
    }
