use Rattle.std.proofs.Common.{◌≡◌, ◌-◌, Result}
use Rattle.contents.specs.Blocks.{blocks_of}
use Rattle.calls.specs.Step.{calls_from, page_from, step_from}
use Rattle.calls.specs.declared.Stepped.{Stepped}
use Rattle.devices.specs.Trace.{Did, Trace}
use Rattle.faults.specs.declared.Fault.{Fault}
use Rattle.database.proofs.Database.search.Given as goal

-- The blocks are those at the entry, and the visits that are left, after those that were made, are those of the whole search.
abbrev pub invariant-loop-p : goal.invariant-loop-p
invariant-loop-p g l =
    let steps = g.D.Device.steps in
    let M = g.D.Device.meaning in
    let blocks = blocks_of (M l.fn.self.device) in
    let p = l.fn.at.0 in
    let n = l.fn.at.1 in
    record {
      same : blocks_of (M l.self.device) ≡ blocks;
      rest : (r : Result Stepped Fault) (e : g.row.D.Denot)
          → Trace (Did steps M) l.self.device (calls_from blocks (32768 - l.p) l.p l.number) (step_from blocks (32768 - l.p) l.p l.number) r e
          → Trace (Did steps M) l.fn.self.device (calls_from blocks (32768 - p) p n) (step_from blocks (32768 - p) p n) r e;
      page : page_from blocks (32768 - l.p) l.p l.number l.block ≡ page_from blocks (32768 - p) p n l.fn.block;
    }
