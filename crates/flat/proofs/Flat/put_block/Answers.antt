use Rattle.std.proofs.Common.{length, ap, arith}
use Rattle.flat.proofs.Pieces.{block_inside}
use Rattle.flat.proofs.Flat.put_block.Goals as goal

pub slice_bounds-block-end : goal.slice_bounds-block-end
slice_bounds-block-end c =
    omega (arith, block_inside c.args.self.now.bytes.items c.args.n c.requires.there, ap length c.deref_mut.ensures.value)
