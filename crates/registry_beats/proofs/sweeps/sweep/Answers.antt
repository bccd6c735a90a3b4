use Rattle.std.proofs.Common.{◌≡◌, List, map, length, ap, arith}
use Rattle.std.specs.List.{filter}
use Rattle.job_records.specs.declared.change.Change.{Change}
use Rattle.registry_beats.specs.Registrations.{is_dead}
use Rattle.registry_beats.specs.Beats.{drop_of}
use Rattle.registry_beats.proofs.SweepLemmas.{changes-sweep}
use Rattle.registry_beats.proofs.sweeps.sweep.Goals as goal

pub returns : goal.returns
returns c =
    let t = c.args.records.now.kept in
    let drops : List Change = map drop_of (filter (is_dead c.args.at) t.registry) in
    let dropped : c.drop_dead.new.changes.items ≡ drops = rw (c.new-changes.ensures.items, c.registry.ensures) at c.in_ok-drop_dead.ensures in
    changes-sweep c.args.at t _ c.requires
    (rw (dropped, c.registry-2.ensures, c.groups.ensures) at c.in_ok-put_groups.ensures)
    (omega (arith, c.len-dropped.ensures, c.drop_dead.new.changes.ok.0, ap length dropped))
