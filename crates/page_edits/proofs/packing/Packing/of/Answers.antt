use Rattle.std.proofs.Common.{arith}
use Rattle.page_edits.proofs.Packs.{packed_at}
use Rattle.page_edits.proofs.packing.Packing.of.Goals as goal

pub invariant_of-result : goal.invariant_of-result
invariant_of-result c =
    let p = packed_at c.args.page.now _ _ c.count-count.ensures c.key_end.ensures in
    record { room = p.room; within = omega (arith, p.low) }

pub returns : goal.returns
returns c = packed_at c.args.page.now _ _ c.count-count.ensures c.key_end.ensures
