use Rattle.std.proofs.Common.{◌∙◌, arith}
use Rattle.page_edits.proofs.Fronts.{packed_front}
use Rattle.page_edits.proofs.packing.Packing.front.Goals as goal

pub invariant_of-result : goal.invariant_of-result
invariant_of-result c =
    let p = packed_front c.args.page.now c.args.count _ c.requires c.key_end.ensures in
    record { room = p.room; within = omega (arith, p.low) }

pub returns : goal.returns
returns c = rw (c.copy_from_slice.ensures.after ∙ c.bytes.ensures) (packed_front c.args.page.now c.args.count _ c.requires c.key_end.ensures)
