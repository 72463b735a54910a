use Rattle.std.proofs.Common.{◌≡◌, ℕ, ◌+◌, ◌-◌, ◌/◌, ◌<◌, ◌≤◌, Result}
use Rattle.contents.specs.Blocks.{bits_in, blocks_of}
use Rattle.database.proofs.checking.check_under.Given as goal
use Rattle.calls.specs.Store.{Slots, bits_clear, bits_under, under_calls, up_to}
use Rattle.devices.specs.Trace.{Did, Trace}
use Rattle.directory.specs.Tree.{node}
use Rattle.faults.specs.declared.Fault.{Fault}
use Rattle.lookup.specs.Reads.{blocks_of_bits, reads}

-- The block that was read last and those of the bits so far are in their slots, and the tests that are left, after those that
-- were made, are those of all bits.
abbrev pub invariant-loop : goal.invariant-loop
invariant-loop g l =
    let did = Did g.D.Device.steps g.D.Device.meaning in
    let blocks = blocks_of (g.D.Device.meaning l.fn.device) in
    let bits = bits_in blocks in
    let h = l.fn.way.hash in
    let t = l.fn.way.depth in
    record {
      same : blocks_of (g.D.Device.meaning l.device) ≡ blocks;
      hash : l.way.hash ≡ h;
      depth : l.way.depth ≡ t + l.counter;
      last : 0 < l.splits → Slots blocks l.directory l.last;
      read : (j : ℕ) → j ≤ l.counter → j < l.splits → Slots blocks l.directory (node h (t + j) / 8192);
      rest : (r : Result Unit Fault) (e : g.row.D.Denot)
          → Trace did l.device (reads (blocks_of_bits l.last (up_to bits (bits_under h (t + l.counter) (l.splits - l.counter))))) (bits_clear bits h (t + l.counter) (l.splits - l.counter)) r e
          → Trace did l.fn.device (under_calls bits h t l.splits) (bits_clear bits h t l.splits) r e;
    }
