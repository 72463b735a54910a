use Rattle.std.proofs.Common.{◌≡◌, ◌+◌, ◌-◌, Ok, Result}
use Rattle.calls.specs.Store.{claims, split_claims}
use Rattle.devices.specs.Trace.{Did, Trace}
use Rattle.faults.specs.declared.Fault.{Fault}
use Rattle.database.proofs.splitting.claim_all.Given as goal

-- the claims that are left, after those that were made, are all claims
abbrev pub invariant-loop : goal.invariant-loop
invariant-loop g l =
    let did = Did g.D.Device.steps g.D.Device.meaning in
    record {
      hash : l.way.hash ≡ l.fn.way.hash;
      depth : l.way.depth ≡ l.fn.way.depth + l.counter;
      rest : (r : Result Unit Fault) (e : g.row.D.Denot)
          → Trace did l.device (split_claims l.fn.way.hash l.way.depth (l.splits - l.counter)) (Ok tt) r e
          → Trace did l.fn.device (claims l.fn.way.hash l.fn.way.depth l.splits) (Ok tt) r e;
    }
