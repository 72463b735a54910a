use Rattle.std.proofs.Common.{◌+◌, List, ap, ◌∙◌, arith}
use Rattle.cache.proofs.Rings.{length_ring, ring_push}
use Rattle.cache.proofs.frames.Queue.push.Goals as goal
use Rattle.cache.specs.InUse.{ring}
use Rattle.cache.specs.declared.frames.Frame.{Frame}

pub returns : goal.returns
returns c =
    let t = c.args.self.now in
    let n = length_ring t.table.frames t.start t.count in
    ap (λ (fs : List Frame). ring fs t.start (t.count + 1)) c.put.ensures.table
    ∙ ring_push t.table.frames t.start t.count c.args.frame c.put.ensures.size (omega arith)
