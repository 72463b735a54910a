use Rattle.std.proofs.Common.{arith}
use Rattle.cache.proofs.CacheDevice.limit.Goals as goal
use Rattle.cache.proofs.Rings.{length_ring, ring_whole}
use Rattle.cache.proofs.Showing.{cached_sound}
use Rattle.cache.specs.InUse.{in_use}

pub returns-clause-sound : goal.returns-clause-sound
returns-clause-sound g c =
    let q = c.args.self.now.queue in
    let n = length_ring q.table.frames q.start q.count in
    cached_sound (in_use q) (g.D.Device.meaning c.args.self.now.below) (λ i h. ring_whole q.table.frames q.start q.count i q.table.whole (omega arith)) c.limit.ensures.sound
