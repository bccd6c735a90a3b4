use Rattle.std.proofs.Common.{◌≡◌, ℕ, List, true, false, Some, cond, sym, ap, ◌∙◌}
use Rattle.std.specs.Prelude.{nat_lt}
use Rattle.job_values.specs.declared.limits.TheConstants.{MOST_OF_KEY, MOST_REGISTRATIONS}
use Rattle.registry_beats.proofs.BeatLemmas.{put-beats, refused-passes}
use Rattle.registry_beats.proofs.beats.beat.Goals as goal

pub returns-then-branch-clause-beats : goal.returns-then-branch-clause-beats
returns-then-branch-clause-beats c =
    put-beats c.args.records.now.kept c.args.key.now c.args.value.now c.args.at c.in_ok-row.row c.in_ok-changes.changes c.requires.rules c.in_ok-row.ensures (c.in_ok-allows.ensures.0 c.if-branch.true) c.in_ok-changes.ensures

pub returns-clause-refused : goal.returns-clause-refused
returns-clause-refused c =
    let t = c.args.records.now.kept in
    refused-passes t c.args.key.now c.args.value.now c.args.at c.in_ok-row.row c.requires.rules c.requires.key c.requires.value c.in_ok-row.ensures
    (λ after. let never : true ≡ false = sym (c.in_ok-allows.ensures.1 after) ∙ c.if-branch.false in cc)
    ∙ ap Some (sym (rw (c.registry.ensures, c.as_str.ensures) at c.limit_of-limit.ensures))
