use Rattle.std.proofs.Common.{◌-◌, Some, None, rules}
use Rattle.cache.proofs.Rings.{length_ring, newest_is}
use Rattle.cache.proofs.frames.Queue.find.Goals as goal
use Rattle.cache.specs.InUse.{in_use}

pub returns-then-frame-n-clause-place : goal.returns-then-frame-n-clause-place
returns-then-frame-n-clause-place c =
    let t = c.args.self.now in
    let size = length_ring t.table.frames t.start t.count in
    newest_is (in_use t) c.args.n (Some (c.loop-age.age - 1)) (search rules)

pub returns-clause-place : goal.returns-clause-place
returns-clause-place c = newest_is (in_use c.args.self.now) c.args.n None (search rules)
