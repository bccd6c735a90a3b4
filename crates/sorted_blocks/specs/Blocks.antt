-- The blocks of a set: lists of keys that together are its keys.
use Rattle.std.specs.Prelude.{◌≡◌, ℕ, suc, ◌+◌, ◌-◌, ◌*◌, ◌<◌, ◌≤◌, nat_le, List, [], ◌∷◌, ◌++◌, length, take, drop, max, sum_by, All, flat_map, if◌then◌else◌}
use Rattle.std.specs.declared.cmp.Ordering.TheVariants.{Less, Greater}
use Rattle.sorted_blocks.specs.declared.key.Key.{Key}
use Rattle.sorted_blocks.specs.declared.key_block.TheConstants.{BLOCK, HALF}
use Rattle.sorted_blocks.specs.Keys.{key_order, Rises}

-- the keys of all blocks, one block after another
abbrev pub joined : {X : Type 0} → List (List X) → List X
joined blocks = flat_map (λ block. block) blocks

-- a block has a key, and place for one more
abbrev pub IsFilled : List Key → Type 0
IsFilled block = (0 < length block) × (length block < BLOCK)

-- the block to which a key belongs: the keys of those before it are below, and the keys of those behind it are above
pub record IsBlockOf (key : Key) (blocks : List (List Key)) (at : ℕ) : Type 0 where
  pub within : at < length blocks
  pub before : All (λ other. key_order key other ≡ Less) (joined (take at blocks))
  pub after : All (λ other. key_order key other ≡ Greater) (joined (drop (suc at) blocks))

-- the blocks with others in place of one of them
abbrev pub replaced : {X : Type 0} → ℕ → List X → List X → List X
replaced at others blocks = take at blocks ++ (others ++ drop (suc at) blocks)

-- the two halves of a block
abbrev pub halves : List Key → List (List Key)
halves block = take HALF block ∷ drop HALF block ∷ []

-- a block, or its halves where it is full
abbrev pub parted : List Key → List (List Key)
parted block = if nat_le BLOCK (length block) then halves block else (block ∷ [])

-- a block, or none where it has no key
abbrev pub unless_empty : List Key → List (List Key)
unless_empty block = if nat_le (length block) 0 then [] else (block ∷ [])

-- how many keys the blocks have above half of their places
abbrev pub above_half : List (List Key) → ℕ
above_half blocks = sum_by (λ block. length block - HALF) blocks

-- how many keys a half of a block takes that is there before it is full again
abbrev pub half_left : List (List Key) → ℕ
half_left [] = 0
half_left (block ∷ blocks) = HALF - 1

-- how many keys may be put where so many blocks are spare. A put takes one of them at most, and takes one only where a
-- block is full: so each of them serves for one put, or for as many as fill half a block.
abbrev pub room_of : List (List Key) → ℕ → ℕ
room_of blocks spare = max spare (spare * HALF + half_left blocks - above_half blocks)

-- the blocks and the spare ones, where so many have place in either list
pub record AreBlocks (blocks spare : List (List Key)) (blocks_place spare_place : ℕ) : Type 0 where
  pub filled : All IsFilled blocks
  pub rising : Rises (joined blocks)
  pub empty : All (λ block. block ≡ []) spare
  pub blocks_fit : length blocks + length spare ≤ blocks_place
  pub spare_fit : length blocks + length spare ≤ spare_place
