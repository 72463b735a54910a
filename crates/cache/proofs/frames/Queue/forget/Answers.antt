use Rattle.std.proofs.Common.{◌<◌, length, drop, ap, arith, length-append}
use Rattle.cache.proofs.Claiming.{length_without, next_kept}
use Rattle.cache.proofs.frames.Queue.forget.Goals as goal
use Rattle.cache.specs.After.{without}
use Rattle.cache.specs.InUse.{in_use}

pub push-requires : goal.push-requires
push-requires c =
    let q = in_use c.args.self.now in
    let i = c.loop-age.age in
    let n = c.args.n in
    let h : i < length q = omega arith in
    let next = next_kept q c.frame-frame.result.now i n h c.frame-frame.ensures c.if-frame-n.true in
    omega (arith, ap length c.loop-age.invariant, length-append (in_use c.loop-age.kept) (without (drop i q) n), ap length next, length_without q n)
