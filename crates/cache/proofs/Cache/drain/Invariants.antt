use Rattle.std.proofs.Common.{List, length, Result}
use Rattle.cache.proofs.Cache.drain.Given as goal
use Rattle.cache.specs.After.{Drained}
use Rattle.cache.specs.InUse.{in_use}
use Rattle.cache.specs.declared.frames.Frame.{Frame}
use Rattle.devices.specs.Trace.{Did}
use Rattle.faults.specs.declared.Fault.{Fault}

-- a flush from here on is a flush from the start
abbrev pub invariant-loop-self : goal.invariant-loop-self
invariant-loop-self g l =
    (r : Result Unit Fault) (p : List Frame) (e : g.row.D.Denot)
    → Drained (Did g.D.Device.steps g.D.Device.meaning) g.D.Device.meaning (in_use l.self.queue) l.self.below r p e
    → Drained (Did g.D.Device.steps g.D.Device.meaning) g.D.Device.meaning (in_use l.initial.self.queue) l.initial.self.below r p e

abbrev pub decreases-loop-self : goal.decreases-loop-self
decreases-loop-self g l = length (in_use l.self.queue)
