use Rattle.std.proofs.Common.{◌≡◌, ◌+◌, ◌≤◌, [], length, All, vec_capacity}
use Rattle.sorted_blocks.proofs.blocks.add_spare.Given as goal

abbrev pub invariant-loop : goal.invariant-loop
invariant-loop l = record {
  empty : All (λ block. block ≡ []) l.spare.items;
  len : length l.spare.items ≡ length l.fn.spare.items + l.counter;
  place : length l.fn.spare.items + l.count ≤ vec_capacity l.fn.spare;
  capacity : vec_capacity l.spare ≡ vec_capacity l.fn.spare;
}
