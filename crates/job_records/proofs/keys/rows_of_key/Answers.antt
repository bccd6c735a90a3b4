use Rattle.std.proofs.Common.{◌≡◌, ◌+◌, refl, arith, rules}
use Rattle.std.specs.Ordering.{is_lt, is_le}
use Rattle.std.proofs.lemmas.Fn.{always_returns_same}
use Rattle.job_records.specs.Rules.{count_of_key}
use Rattle.job_records.proofs.KeyLemmas.{by_key, parted-key, count-between}
use Rattle.job_records.proofs.keys.rows_of_key.Goals as goal

pub overflow_sub-result : goal.overflow_sub-result
overflow_sub-result c =
    (count-between c.args.key.now c.args.rows.now c.partition_point-start.result c.partition_point-end.result c.partition_point-start.ensures.bound c.partition_point-end.ensures.bound
    (c.partition_point-start.ensures.partitioned (λ row. is_lt (by_key c.args.key.now row)) (always_returns_same _ _ _ (λ a r f called. search rules)) (parted-key is_lt (refl, refl) c.args.key.now c.args.rows.now c.requires))
    (c.partition_point-end.ensures.partitioned (λ row. is_le (by_key c.args.key.now row)) (always_returns_same _ _ _ (λ a r f called. search rules)) (parted-key is_le (refl, refl) c.args.key.now c.args.rows.now c.requires))).0

pub returns : goal.returns
returns c =
    let counted : count_of_key c.args.key.now c.args.rows.now + c.partition_point-start.result ≡ c.partition_point-end.result =
    (count-between c.args.key.now c.args.rows.now c.partition_point-start.result c.partition_point-end.result c.partition_point-start.ensures.bound c.partition_point-end.ensures.bound
    (c.partition_point-start.ensures.partitioned (λ row. is_lt (by_key c.args.key.now row)) (always_returns_same _ _ _ (λ a r f called. search rules)) (parted-key is_lt (refl, refl) c.args.key.now c.args.rows.now c.requires))
    (c.partition_point-end.ensures.partitioned (λ row. is_le (by_key c.args.key.now row)) (always_returns_same _ _ _ (λ a r f called. search rules)) (parted-key is_le (refl, refl) c.args.key.now c.args.rows.now c.requires))).1 in
    omega arith
