use Rattle.std.proofs.Common.{◌≡◌, ℕ, ◌-◌, ◌<◌, true, Ok, Result}
use Rattle.contents.specs.Blocks.{bits_in, blocks_of}
use Rattle.devices.specs.Trace.{Did, Trace}
use Rattle.directory.specs.Ending.{leaf_of}
use Rattle.directory.specs.Tree.{node}
use Rattle.directory.specs.declared.Leaf.{Leaf}
use Rattle.faults.specs.declared.Fault.{Fault}
use Rattle.lookup.specs.Reads.{blocks_of_bits, lookup_calls, reads, tested}
use Rattle.lookup.proofs.look_up.Given as goal

-- The buffer has the directory block that was read last, every bit above is set, and the reads that are left,
-- after those that were made, are those of the whole lookup.
abbrev pub invariant-loop-i : goal.invariant-loop-i
invariant-loop-i g l =
    let steps = g.D.Device.steps in
    let M = g.D.Device.meaning in
    let blocks = blocks_of (M l.fn.device) in
    let own = Ok (leaf_of (bits_in blocks) l.hash) in
    record {
      same : blocks_of (M l.device) ≡ blocks;
      block : l.block ≡ blocks l.last;
      hash : l.way.hash ≡ l.hash;
      above : (s : ℕ) → s < l.way.depth → bits_in blocks (node l.hash s) ≡ true;
      rest : (r : Result Leaf Fault) (e : g.row.D.Denot)
          → Trace (Did steps M) l.device (reads (blocks_of_bits l.last (tested (bits_in blocks) l.hash l.way.depth))) own r e
          → Trace (Did steps M) l.fn.device (lookup_calls blocks l.hash) own r e;
    }

abbrev pub decreases-loop-i : goal.decreases-loop-i
decreases-loop-i g l = 15 - l.way.depth
