use Rattle.std.proofs.Common.{◌≡◌, ◌-◌, List, length, take, drop, refl, rules}
use Rattle.std.specs.Ordering.{is_lt, is_le}
use Rattle.std.proofs.lemmas.Fn.{always_returns_same}
use Rattle.std.proofs.lemmas.List.{take_rest}
use Rattle.job_records.proofs.KeyLemmas.{by_key, parted-key}
use Rattle.registry_beats.proofs.KeyRows.{rises-drop, rows-of_key}
use Rattle.registry_beats.proofs.keys.rows_of_key.Goals as goal

pub returns : goal.returns
returns c =
    let key = c.args.key.now in
    let rows = c.args.rows.now in
    let start = c.partition_point-start.result in
    let rest : take (length rows - start) (drop start rows) ≡ drop start rows = take_rest rows start in
    rw rest
    (rows-of_key key rows start c.partition_point-count.result c.partition_point-start.ensures.bound (rw rest at c.partition_point-count.ensures.bound)
    (c.partition_point-start.ensures.partitioned (λ row. is_lt (by_key key row)) (always_returns_same _ _ _ (λ a r f called. search rules)) (parted-key is_lt (refl, refl) key rows c.requires))
    (rw rest at (c.partition_point-count.ensures.partitioned (λ row. is_le (by_key key row)) (always_returns_same _ _ _ (λ a r f called. search rules)) (rw rest (parted-key is_le (refl, refl) key (drop start rows) (rises-drop start rows c.requires))))))
