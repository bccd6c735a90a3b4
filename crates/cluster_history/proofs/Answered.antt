-- The accepted entries of a legal history are answered.
use Rattle.std.proofs.Common.{◌≡◌, ℕ, Bool, true, false, refl, sym, ap, ◌∙◌, subst}
use Rattle.job_events.specs.declared.cluster.ClusterEvent.{ClusterEvent}
use Rattle.job_events.specs.declared.cluster.ClusterReply.{ClusterReply}
use Rattle.cluster_history.specs.History.{History, Begin, After, opening_of, accepted, with_entry, is_refusal}
use Rattle.cluster_history.specs.Replies.{reply_after, if_running}
use Rattle.cluster_history.specs.Runs.{OpensWell, IsLegal, IsWithin, AreWithin, IsAnswered}

-- an entry that is kept is accepted
kept-answered : (b : Bool) (h : History) (e : ClusterEvent) (r : ClusterReply) → is_refusal r ≡ b → r ≡ reply_after h e → IsAnswered h → IsAnswered (with_entry b h e r)
kept-answered true h e r refusal answer before = before
kept-answered false h e r refusal answer before = (before, answer, refusal)

pub legal_answered : (h : History) → IsLegal h → IsAnswered (accepted h)
legal_answered (Begin o) legal = tt
legal_answered (After h e r) legal = kept-answered (is_refusal r) (accepted h) e r refl legal.2 (legal_answered h legal.0)

-- the accepted entries follow the same opening
kept-opening : (b : Bool) (h : History) (e : ClusterEvent) (r : ClusterReply) → opening_of (with_entry b h e r) ≡ opening_of h
kept-opening true h e r = refl
kept-opening false h e r = refl

pub accepted_opening : (h : History) → opening_of (accepted h) ≡ opening_of h
accepted_opening (Begin o) = refl
accepted_opening (After h e r) = kept-opening (is_refusal r) (accepted h) e r ∙ accepted_opening h

pub legal_opens : (h : History) → IsLegal h → OpensWell (opening_of h)
legal_opens (Begin o) legal = legal
legal_opens (After h e r) legal = legal_opens h legal.0

pub accepted_opens : (h : History) → IsLegal h → OpensWell (opening_of (accepted h))
accepted_opens h legal = subst OpensWell (sym (accepted_opening h)) (legal_opens h legal)

-- and only admins start in them that there are
kept-within : (b : Bool) (h : History) (e : ClusterEvent) (r : ClusterReply) → IsWithin e → AreWithin h → AreWithin (with_entry b h e r)
kept-within true h e r here earlier = earlier
kept-within false h e r here earlier = (earlier, here)

pub legal_within : (h : History) → IsLegal h → AreWithin (accepted h)
legal_within (Begin o) legal = tt
legal_within (After h e r) legal = kept-within (is_refusal r) (accepted h) e r legal.1 (legal_within h legal.0)

-- an event of an admin is accepted only while the admin runs
pub running_since : (b : Bool) (admin : ℕ) (answer r : ClusterReply) → r ≡ if_running b admin answer → is_refusal r ≡ false → b ≡ true
running_since true admin answer r is ok = refl
running_since false admin answer r is ok = sym ok ∙ ap is_refusal is
