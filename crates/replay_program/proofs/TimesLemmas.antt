-- The text of next times, one time after another.
use Rattle.std.proofs.Common.{◌≡◌, ◌≢◌, ℕ, zero, suc, ◌-◌, List, [], ◌∷◌, ◌++◌, Some, refl, sym, ◌∙◌, ap, append_assoc, arith}
use Rattle.std.specs.Fmt.{decimal}
use Rattle.zone_texts.specs.declared.zone.Zone.{Zone}
use Rattle.cron_schedule.specs.declared.plan.Plan.{Plan}
use Rattle.cron_schedule.specs.After.{time_after}
use Rattle.replay_program.specs.Times.{told, times_text}

-- some times are the first one, and the others behind it
pub first_told : (plan : Plan) (zone : Zone) (n at : ℕ) → n ≢ 0 → times_text plan zone n at ≡ told (times_text plan zone (n - 1)) (time_after plan zone at)
first_told plan zone zero at h = absurd (h refl)
first_told plan zone (suc n) at h = let e : suc n - 1 ≡ n = omega arith in rw e refl

-- a time that was told, and those behind it
pub told_more : (plan : Plan) (zone : Zone) (n at next : ℕ) (old mid new : List ℕ) → n ≢ 0 → time_after plan zone at ≡ Some next
    → mid ≡ old ++ (decimal next ++ 10 ∷ []) → new ≡ mid ++ times_text plan zone (n - 1) next → new ≡ old ++ times_text plan zone n at
told_more plan zone n at next old mid new h is front back =
    back ∙ ap (λ xs. xs ++ times_text plan zone (n - 1) next) front
    ∙ append_assoc old (decimal next ++ 10 ∷ []) (times_text plan zone (n - 1) next)
    ∙ ap (λ xs. old ++ xs) (append_assoc (decimal next) (10 ∷ []) (times_text plan zone (n - 1) next))
    ∙ ap (λ xs. old ++ xs) (sym (first_told plan zone n at h ∙ ap (told (times_text plan zone (n - 1))) is))

-- four pieces, one behind another
pub four_pieces : (a b c d old first second third new : List ℕ) → first ≡ old ++ a → second ≡ first ++ b → third ≡ second ++ c → new ≡ third ++ d
    → new ≡ old ++ (a ++ b ++ c ++ d)
four_pieces a b c d old first second third new e1 e2 e3 e4 =
    e4 ∙ ap (λ xs. xs ++ d) (e3 ∙ ap (λ xs. xs ++ c) (e2 ∙ ap (λ xs. xs ++ b) e1 ∙ append_assoc old a b) ∙ append_assoc old (a ++ b) c)
    ∙ append_assoc old (a ++ b ++ c) d
