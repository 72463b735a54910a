use Rattle.cache.proofs.CacheDevice.flush.Goals as goal
use Rattle.cache.proofs.Flushing.{drained_meaning, drained_step, drained_trace}
use Rattle.cache.specs.InUse.{in_use}

pub returns : goal.returns
returns g c =
    let M = g.D.Device.meaning in
    let steps = g.D.Device.steps in
    let x = c.args.self.now.below in
    let y = c.drain.new.self.below in
    let q = in_use c.args.self.now.queue in
    let p = in_use c.drain.new.self.queue in
    let d = g.D.Device.meaning c.args.self.now.below in
    let e = g.D.Device.meaning c.drain.new.self.below in
    let r = c.drain.result in (
      (drained_trace steps M q x r p y c.drain.ensures, c.drain.ensures),
      drained_step q d r p e (drained_meaning steps M q x r p y c.drain.ensures),
    )
