use Rattle.std.proofs.Common.{◌≡◌, suc, ◌+◌, ◌-◌, ◌%◌, drop, sym, ap, ◌∙◌, arith}
use Rattle.cache.proofs.Rings.{length_ring, ring_mod}
use Rattle.cache.proofs.frames.Queue.pop.Goals as goal
use Rattle.cache.specs.InUse.{ring}

pub returns : goal.returns
returns c =
    let t = c.args.self.now in
    let n = length_ring t.table.frames t.start t.count in
    let m : t.count ≡ suc (t.count - 1) = omega arith in
    ring_mod t.table.frames ((t.start + 1) % 8) (t.start + 1) (t.count - 1) (omega arith)
    ∙ sym (ap (λ k. drop 1 (ring t.table.frames t.start k)) m)
