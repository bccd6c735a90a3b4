use Rattle.std.proofs.Common.{vec_capacity, arith}
use Rattle.sorted_blocks.specs.Blocks.{IsBlockOf}
use Rattle.sorted_blocks.proofs.BlockLemmas.{put-sound, put-keys, put-room}
use Rattle.sorted_blocks.proofs.blocks.put_key.Goals as goal

pub returns-clause-sound : goal.returns-clause-sound
returns-clause-sound c =
    let place : IsBlockOf c.args.key c.args.blocks.now.items c.block_of-at.result = rw c.as_slice.ensures.value at c.block_of-at.ensures in
    put-sound c.args.key c.args.blocks.now.items c.args.spare.now.items c.put_within.new.blocks.items c.put_within.new.spare.items c.block_of-at.result
    (vec_capacity c.args.blocks.now) (vec_capacity c.args.spare.now) (vec_capacity c.put_within.new.blocks) (vec_capacity c.put_within.new.spare)
    c.requires.sound place c.put_within.ensures.blocks c.put_within.ensures.empty c.put_within.ensures.count
    (omega (arith, c.put_within.ensures.blocks_capacity)) (omega (arith, c.put_within.ensures.spare_capacity))

pub returns-clause-keys : goal.returns-clause-keys
returns-clause-keys c =
    let place : IsBlockOf c.args.key c.args.blocks.now.items c.block_of-at.result = rw c.as_slice.ensures.value at c.block_of-at.ensures in
    put-keys c.args.key c.args.blocks.now.items c.put_within.new.blocks.items c.block_of-at.result place c.put_within.ensures.blocks

pub returns-clause-room : goal.returns-clause-room
returns-clause-room c =
    let place : IsBlockOf c.args.key c.args.blocks.now.items c.block_of-at.result = rw c.as_slice.ensures.value at c.block_of-at.ensures in
    put-room c.args.key c.args.blocks.now.items c.args.spare.now.items c.put_within.new.blocks.items c.put_within.new.spare.items c.block_of-at.result
    c.requires.sound.filled place.within c.put_within.ensures.blocks c.put_within.ensures.count
