use Rattle.std.proofs.Common.{sym, ◌∙◌, arith}
use Rattle.cache.proofs.Rings.{length_ring, ring_at}
use Rattle.cache.proofs.frames.Queue.frame.Goals as goal

pub returns : goal.returns
returns c =
    let t = c.args.self.now in
    let n = length_ring t.table.frames t.start t.count in
    c.frame.ensures ∙ sym (ring_at t.table.frames t.start t.count c.args.age (omega arith))
