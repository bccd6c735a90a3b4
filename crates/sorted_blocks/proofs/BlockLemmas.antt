-- Lemmas on what a put and a drop leave of the blocks, and of the room.
use Rattle.std.proofs.Common.{◌≡◌, ℕ, zero, suc, ◌+◌, ◌-◌, ◌*◌, ◌<◌, ◌≤◌, max, min, ◌/◌, ◌⊎◌, ⊎_elim, List, [], ◌∷◌, ◌++◌, Bool, true, false, cond, not, leb, length, get_or, take, drop, set, refl, sym, ap, ◌∙◌, subst, arith}
use Rattle.std.specs.declared.cmp.Ordering.TheVariants.{Less, Greater}
use Rattle.std.specs.List.{All, sum_by, filter}
use Rattle.std.specs.Ordering.{is_eq}
use Rattle.std.proofs.Math.Seq.{split_at}
use Rattle.std.proofs.lemmas.Bool.{cases_lt}
use Rattle.std.proofs.lemmas.Bool.Decides.{nat_tests}
use Rattle.std.proofs.lemmas.List.{append-nil, take-append-drop, length-take-le, length-drop, set_split}
use Rattle.std.proofs.lemmas.List.Elements.{All-nil, All-cons, All-weaker}
use Rattle.std.proofs.lemmas.List.Sums.{sum_by-append, sum_by-cons, sum_by-le, length-filter, count_by-le-length}
use Rattle.sorted_blocks.specs.declared.key.Key.{Key}
use Rattle.sorted_blocks.specs.declared.key_block.TheConstants.{BLOCK, HALF}
use Rattle.sorted_blocks.specs.Blocks.{joined, IsFilled, IsBlockOf, replaced, halves, parted, unless_empty, above_half, half_left, room_of, AreBlocks}
use Rattle.sorted_blocks.specs.Keys.{key_order, Rises, with_key, without_key}
use Rattle.sorted_blocks.proofs.ListLemmas.{joined-at, joined-replaced, all-replaced, length-replaced, put-between_rows, filter-between}
use Rattle.sorted_blocks.proofs.OrderLemmas.{rises-put, rises-without, length-put}

le-is : (m n : ℕ) → leb m n ≡ true → m ≤ n
le-is m n h = grind (arith, nat_tests)

le-not : (m n : ℕ) → leb m n ≡ false → n < m
le-not m n h = grind (arith, nat_tests)

-- a block and its parts have the same keys
joined-parted : (block : List Key) → joined (parted block) ≡ block
joined-parted block = by (leb BLOCK (length block))
  where
    by : (b : Bool) → joined (cond b (halves block) (block ∷ [])) ≡ block
    by true = ap (λ (keys : List Key). take HALF block ++ keys) (append-nil (drop HALF block)) ∙ take-append-drop HALF block
    by false = append-nil block

joined-kept : (block : List Key) → joined (unless_empty block) ≡ block
joined-kept block = by (leb (length block) 0) refl
  where
    none : (keys : List Key) → length keys ≤ 0 → keys ≡ []
    none [] le = refl
    none (key ∷ keys) le = absurd (omega arith)

    by : (b : Bool) → leb (length block) 0 ≡ b → joined (cond b [] (block ∷ [])) ≡ block
    by true is = sym (none block (le-is (length block) 0 is))
    by false is = append-nil block

-- a block that is written and not full
pub set-parted : (at : ℕ) (block : List Key) (blocks : List (List Key)) → at < length blocks → length block < BLOCK → set blocks at block ≡ replaced at (parted block) blocks
set-parted at block blocks within fewer =
    set_split blocks at block within ∙ ap (λ (others : List (List Key)). take at blocks ++ (others ++ drop (suc at) blocks)) (by (leb BLOCK (length block)) refl)
  where
    by : (b : Bool) → leb BLOCK (length block) ≡ b → block ∷ [] ≡ cond b (halves block) (block ∷ [])
    by true is = absurd (let full : BLOCK ≤ length block = le-is BLOCK (length block) is in omega arith)
    by false is = refl

-- a block that is written and has a key
pub set-kept : (at : ℕ) (block : List Key) (blocks : List (List Key)) → at < length blocks → 0 < length block → set blocks at block ≡ replaced at (unless_empty block) blocks
set-kept at block blocks within some =
    set_split blocks at block within ∙ ap (λ (others : List (List Key)). take at blocks ++ (others ++ drop (suc at) blocks)) (by (leb (length block) 0) refl)
  where
    by : (b : Bool) → leb (length block) 0 ≡ b → block ∷ [] ≡ cond b [] (block ∷ [])
    by true is = absurd (let none : length block ≤ 0 = le-is (length block) 0 is in omega arith)
    by false is = refl

-- how a block is parted: into one or two that are filled, and how far those are above half
record IsParted (block : List Key) (parts : List (List Key)) : Type 0 where
  filled : All IsFilled parts
  above : (length block < BLOCK) → above_half parts ≡ length block - HALF
  one : (length block < BLOCK) → length parts ≡ 1
  none_above : BLOCK ≤ length block → above_half parts ≡ 0
  two : BLOCK ≤ length block → length parts ≡ 2

above-one : (block : List Key) → above_half (block ∷ []) ≡ length block - HALF
above-one block = let one = sum_by-cons (λ (b : List Key). length b - HALF) block [] in omega arith

above-two : (front back : List Key) → above_half (front ∷ back ∷ []) ≡ (length front - HALF) + (length back - HALF)
above-two front back =
    let one = sum_by-cons (λ (b : List Key). length b - HALF) front (back ∷ []) in
    let two = above-one back in
    omega arith

is-parted : (block : List Key) → 0 < length block → length block ≤ BLOCK → IsParted block (parted block)
is-parted block some most = by (leb BLOCK (length block)) refl
  where
    front : BLOCK ≤ length block → length (take HALF block) ≡ HALF
    front full = length-take-le HALF block (omega arith)

    back : BLOCK ≤ length block → length (drop HALF block) ≡ HALF
    back full = let rest = length-drop HALF block in omega arith

    by : (b : Bool) → leb BLOCK (length block) ≡ b → IsParted block (cond b (halves block) (block ∷ []))
    by true is =
        let full : BLOCK ≤ length block = le-is BLOCK (length block) is in
        let first : length (take HALF block) ≡ HALF = front full in
        let last : length (drop HALF block) ≡ HALF = back full in
        let above = above-two (take HALF block) (drop HALF block) in
        record {
          filled = All-cons IsFilled (take HALF block) (drop HALF block ∷ []) (omega arith, omega arith) (All-cons IsFilled (drop HALF block) [] (omega arith, omega arith) (All-nil IsFilled));
          above = λ fewer. absurd (omega arith);
          one = λ fewer. absurd (omega arith);
          none_above = λ h. omega arith;
          two = λ h. refl;
        }
    by false is =
        let fewer : length block < BLOCK = le-not BLOCK (length block) is in
        record {
          filled = All-cons IsFilled block [] (some, fewer) (All-nil IsFilled);
          above = λ h. above-one block;
          one = λ h. refl;
          none_above = λ full. absurd (omega arith);
          two = λ full. absurd (omega arith);
        }

-- a block that is left is filled, and is no further above half
record IsKept (block : List Key) (rest : List (List Key)) : Type 0 where
  filled : All IsFilled rest
  above : above_half rest ≤ length block - HALF
  most : length rest ≤ 1

is-kept : (block : List Key) → length block < BLOCK → IsKept block (unless_empty block)
is-kept block fewer = by (leb (length block) 0) refl
  where
    by : (b : Bool) → leb (length block) 0 ≡ b → IsKept block (cond b [] (block ∷ []))
    by true is = record { filled = All-nil IsFilled; above = omega arith; most = omega arith }
    by false is =
        let some : 0 < length block = le-not (length block) 0 is in
        let above = above-one block in
        record { filled = All-cons IsFilled block [] (some, fewer) (All-nil IsFilled); above = omega arith; most = omega arith }

-- how far the blocks are above half, around one of them
above-at : (blocks : List (List Key)) (at : ℕ) → at < length blocks → above_half blocks ≡ above_half (take at blocks) + ((length (get_or blocks at []) - HALF) + above_half (drop (suc at) blocks))
above-at blocks at within =
    ap above_half (split_at blocks at [] within)
    ∙ sum_by-append (λ (block : List Key). length block - HALF) (take at blocks) (get_or blocks at [] ∷ drop (suc at) blocks)
    ∙ ap (λ (n : ℕ). above_half (take at blocks) + n) (sum_by-cons (λ (block : List Key). length block - HALF) (get_or blocks at []) (drop (suc at) blocks))

above-replaced : (at : ℕ) (others blocks : List (List Key)) → above_half (replaced at others blocks) ≡ above_half (take at blocks) + (above_half others + above_half (drop (suc at) blocks))
above-replaced at others blocks =
    sum_by-append (λ (block : List Key). length block - HALF) (take at blocks) (others ++ drop (suc at) blocks)
    ∙ ap (λ (n : ℕ). above_half (take at blocks) + n) (sum_by-append (λ (block : List Key). length block - HALF) others (drop (suc at) blocks))

half_left-some : (blocks : List (List Key)) → 0 < length blocks → half_left blocks ≡ HALF - 1
half_left-some [] some = absurd (omega arith)
half_left-some (block ∷ blocks) some = refl

-- the keys after a put
pub put-keys : (key : Key) (blocks new : List (List Key)) (at : ℕ) → IsBlockOf key blocks at → new ≡ replaced at (parted (with_key key (get_or blocks at []))) blocks → joined new ≡ with_key key (joined blocks)
put-keys key blocks new at place is =
    let block : List Key = get_or blocks at [] in
    let before : List Key = joined (take at blocks) in
    let after : List Key = joined (drop (suc at) blocks) in
    ap joined is
    ∙ joined-replaced at (parted (with_key key block)) blocks
    ∙ ap (λ (keys : List Key). before ++ (keys ++ after)) (joined-parted (with_key key block))
    ∙ sym (put-between_rows (key_order key) key before block after place.before place.after)
    ∙ ap (with_key key) (sym (joined-at blocks at place.within))

-- a put leaves blocks
pub put-sound : (key : Key) (blocks spare new new_spare : List (List Key)) (at places spare_places new_places new_spare_places : ℕ) → AreBlocks blocks spare places spare_places → IsBlockOf key blocks at → new ≡ replaced at (parted (with_key key (get_or blocks at []))) blocks
    → All (λ block. block ≡ []) new_spare → length new + length new_spare ≡ length blocks + length spare → places ≤ new_places → spare_places ≤ new_spare_places → AreBlocks new new_spare new_places new_spare_places
put-sound key blocks spare new new_spare at places spare_places new_places new_spare_places sound place is empty count more more_spare =
    let block : List Key = get_or blocks at [] in
    let filled : IsFilled block = sound.filled at [] place.within in
    let lengths = length-put key block in
    let parts : IsParted (with_key key block) (parted (with_key key block)) = is-parted (with_key key block) lengths.2 (omega arith) in
    let fit : length blocks + length spare ≤ places = sound.blocks_fit in
    let spare_fit : length blocks + length spare ≤ spare_places = sound.spare_fit in
    record {
      filled = subst (All IsFilled) (sym is) (all-replaced IsFilled at (parted (with_key key block)) blocks sound.filled parts.filled);
      rising = subst Rises (sym (put-keys key blocks new at place is)) (rises-put key (joined blocks) sound.rising);
      empty = empty;
      blocks_fit = omega arith;
      spare_fit = omega arith;
    }

-- a put takes one place of the room at most
pub put-room : (key : Key) (blocks spare new new_spare : List (List Key)) (at : ℕ) → All IsFilled blocks → at < length blocks → new ≡ replaced at (parted (with_key key (get_or blocks at []))) blocks → length new + length new_spare ≡ length blocks + length spare
    → room_of blocks (length spare) ≤ room_of new (length new_spare) + 1
put-room key blocks spare new new_spare at all within is count =
    let block : List Key = get_or blocks at [] in
    let filled : IsFilled block = all at [] within in
    let lengths = length-put key block in
    let parts : IsParted (with_key key block) (parted (with_key key block)) = is-parted (with_key key block) lengths.2 (omega arith) in
    let long : length new + 1 ≡ length blocks + length (parted (with_key key block)) =
    ap (λ (xs : List (List Key)). length xs + 1) is ∙ length-replaced at (parted (with_key key block)) blocks within in
    let left : half_left blocks ≡ HALF - 1 = half_left-some blocks (omega arith) in
    let above = above-at blocks at within in
    let new_above : above_half new ≡ above_half (take at blocks) + (above_half (parted (with_key key block)) + above_half (drop (suc at) blocks)) =
    ap above_half is ∙ above-replaced at (parted (with_key key block)) blocks in
    ⊎_elim (λ (fewer : length (with_key key block) < BLOCK).
    let one : length (parted (with_key key block)) ≡ 1 = parts.one fewer in
    let rest : above_half (parted (with_key key block)) ≡ length (with_key key block) - HALF = parts.above fewer in
    let new_left : half_left new ≡ HALF - 1 = half_left-some new (omega arith) in
    omega arith)
    (λ (full : BLOCK ≤ length (with_key key block)).
    let two : length (parted (with_key key block)) ≡ 2 = parts.two full in
    let rest : above_half (parted (with_key key block)) ≡ 0 = parts.none_above full in
    let new_left : half_left new ≡ HALF - 1 = half_left-some new (omega arith) in
    omega arith)
    (cases_lt (length (with_key key block)) BLOCK)

length-without : (key : Key) (keys : List Key) → length (without_key key keys) ≤ length keys
length-without key keys =
    let kept = length-filter (λ (other : Key). not (is_eq (key_order key other))) keys in
    let most = count_by-le-length (λ (other : Key). not (is_eq (key_order key other))) keys in
    omega arith

-- the keys after a drop
pub drop-keys : (key : Key) (blocks new : List (List Key)) (at : ℕ) → IsBlockOf key blocks at → new ≡ replaced at (unless_empty (without_key key (get_or blocks at []))) blocks → joined new ≡ without_key key (joined blocks)
drop-keys key blocks new at place is =
    let block : List Key = get_or blocks at [] in
    let before : List Key = joined (take at blocks) in
    let after : List Key = joined (drop (suc at) blocks) in
    ap joined is
    ∙ joined-replaced at (unless_empty (without_key key block)) blocks
    ∙ ap (λ (keys : List Key). before ++ (keys ++ after)) (joined-kept (without_key key block))
    ∙ sym (filter-between (λ other. not (is_eq (key_order key other))) before block after
    (All-weaker (λ other. key_order key other ≡ Less) (λ other. not (is_eq (key_order key other)) ≡ true) (λ other below. ap (λ o. not (is_eq o)) below) before place.before)
    (All-weaker (λ other. key_order key other ≡ Greater) (λ other. not (is_eq (key_order key other)) ≡ true) (λ other above. ap (λ o. not (is_eq o)) above) after place.after))
    ∙ ap (without_key key) (sym (joined-at blocks at place.within))

-- a drop leaves blocks
pub drop-sound : (key : Key) (blocks spare new new_spare : List (List Key)) (at places spare_places new_places new_spare_places : ℕ) → AreBlocks blocks spare places spare_places → IsBlockOf key blocks at → new ≡ replaced at (unless_empty (without_key key (get_or blocks at []))) blocks
    → All (λ block. block ≡ []) new_spare → length new + length new_spare ≡ length blocks + length spare → places ≤ new_places → spare_places ≤ new_spare_places → AreBlocks new new_spare new_places new_spare_places
drop-sound key blocks spare new new_spare at places spare_places new_places new_spare_places sound place is empty count more more_spare =
    let block : List Key = get_or blocks at [] in
    let filled : IsFilled block = sound.filled at [] place.within in
    let short = length-without key block in
    let rest : IsKept (without_key key block) (unless_empty (without_key key block)) = is-kept (without_key key block) (omega arith) in
    let fit : length blocks + length spare ≤ places = sound.blocks_fit in
    let spare_fit : length blocks + length spare ≤ spare_places = sound.spare_fit in
    record {
      filled = subst (All IsFilled) (sym is) (all-replaced IsFilled at (unless_empty (without_key key block)) blocks sound.filled rest.filled);
      rising = subst Rises (sym (drop-keys key blocks new at place is)) (rises-without key (joined blocks) sound.rising);
      empty = empty;
      blocks_fit = omega arith;
      spare_fit = omega arith;
    }

-- a drop takes nothing of the room
pub drop-room : (key : Key) (blocks spare new new_spare : List (List Key)) (at : ℕ) → All IsFilled blocks → at < length blocks → new ≡ replaced at (unless_empty (without_key key (get_or blocks at []))) blocks → length new + length new_spare ≡ length blocks + length spare
    → room_of blocks (length spare) ≤ room_of new (length new_spare)
drop-room key blocks spare new new_spare at all within is count =
    let block : List Key = get_or blocks at [] in
    let filled : IsFilled block = all at [] within in
    let short = length-without key block in
    let rest : IsKept (without_key key block) (unless_empty (without_key key block)) = is-kept (without_key key block) (omega arith) in
    let long : length new + 1 ≡ length blocks + length (unless_empty (without_key key block)) =
    ap (λ (xs : List (List Key)). length xs + 1) is ∙ length-replaced at (unless_empty (without_key key block)) blocks within in
    let most : length (unless_empty (without_key key block)) ≤ 1 = rest.most in
    let left : half_left blocks ≡ HALF - 1 = half_left-some blocks (omega arith) in
    let above = above-at blocks at within in
    let rest_above : above_half (unless_empty (without_key key block)) ≤ length (without_key key block) - HALF = rest.above in
    let new_above : above_half new ≡ above_half (take at blocks) + (above_half (unless_empty (without_key key block)) + above_half (drop (suc at) blocks)) =
    ap above_half is ∙ above-replaced at (unless_empty (without_key key block)) blocks in
    ⊎_elim (λ (none : length (unless_empty (without_key key block)) < 1). omega arith)
    (λ (one : 1 ≤ length (unless_empty (without_key key block))).
    let new_left : half_left new ≡ HALF - 1 = half_left-some new (omega arith) in
    omega arith)
    (cases_lt (length (unless_empty (without_key key block))) 1)

-- so many spare blocks make room for as many keys
pub reserve-room : (blocks : List (List Key)) (spare more most limit : ℕ) → All IsFilled blocks → most ≡ min (length blocks + (more / HALF + 1)) limit → more ≤ limit → min more most ≤ spare → more ≤ room_of blocks spare
reserve-room blocks spare more most limit filled is within enough =
    let above : above_half blocks ≤ length blocks * HALF =
    sum_by-le (λ (block : List Key). length block - HALF) HALF blocks (λ k d lt. let short : length (get_or blocks k d) < BLOCK = (filled k d lt).1 in omega arith) in
    omega arith
