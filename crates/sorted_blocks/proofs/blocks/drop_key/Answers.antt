use Rattle.std.proofs.Common.{vec_capacity, arith}
use Rattle.sorted_blocks.specs.Blocks.{IsBlockOf}
use Rattle.sorted_blocks.proofs.BlockLemmas.{drop-sound, drop-keys, drop-room}
use Rattle.sorted_blocks.proofs.blocks.drop_key.Goals as goal

pub returns-clause-sound : goal.returns-clause-sound
returns-clause-sound c =
    let place : IsBlockOf c.args.key c.args.blocks.now.items c.block_of-at.result = rw c.as_slice.ensures.value at c.block_of-at.ensures in
    drop-sound c.args.key c.args.blocks.now.items c.args.spare.now.items c.drop_within.new.blocks.items c.drop_within.new.spare.items c.block_of-at.result
    (vec_capacity c.args.blocks.now) (vec_capacity c.args.spare.now) (vec_capacity c.drop_within.new.blocks) (vec_capacity c.drop_within.new.spare)
    c.requires.sound place c.drop_within.ensures.blocks c.drop_within.ensures.empty c.drop_within.ensures.count
    (omega (arith, c.drop_within.ensures.blocks_capacity)) (omega (arith, c.drop_within.ensures.spare_capacity))

pub returns-clause-keys : goal.returns-clause-keys
returns-clause-keys c =
    let place : IsBlockOf c.args.key c.args.blocks.now.items c.block_of-at.result = rw c.as_slice.ensures.value at c.block_of-at.ensures in
    drop-keys c.args.key c.args.blocks.now.items c.drop_within.new.blocks.items c.block_of-at.result place c.drop_within.ensures.blocks

pub returns-clause-room : goal.returns-clause-room
returns-clause-room c =
    let place : IsBlockOf c.args.key c.args.blocks.now.items c.block_of-at.result = rw c.as_slice.ensures.value at c.block_of-at.ensures in
    drop-room c.args.key c.args.blocks.now.items c.args.spare.now.items c.drop_within.new.blocks.items c.drop_within.new.spare.items c.block_of-at.result
    c.requires.sound.filled place.within c.drop_within.ensures.blocks c.drop_within.ensures.count
