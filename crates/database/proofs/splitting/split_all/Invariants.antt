use Rattle.std.proofs.Common.{◌≡◌, ℕ, ◌+◌, ◌-◌, ◌<◌, ◌/◌, Ok, Result}
use Rattle.contents.specs.Blocks.{Blocks}
use Rattle.calls.specs.Store.{Slots, split_writes}
use Rattle.devices.specs.Trace.{Did, Trace}
use Rattle.directory.specs.Tree.{node}
use Rattle.faults.specs.declared.Fault.{Fault}
use Rattle.pages.specs.Blank.{bytes_of}
use Rattle.pages.specs.Page.{pairs_of}
use Rattle.database.proofs.splitting.split_all.Given as goal

-- The writes that are left, after those that were made, are all writes: of any blocks that the slots had at the entry there
-- are some that they have now.
abbrev pub invariant-loop : goal.invariant-loop
invariant-loop g l =
    let did = Did g.D.Device.steps g.D.Device.meaning in
    let pairs = pairs_of (bytes_of l.page.good) in
    record {
      hash : l.way.hash ≡ l.fn.way.hash;
      depth : l.way.depth ≡ l.fn.way.depth + l.counter;
      rest : (blocks : Blocks)
          → ((j : ℕ) → j < l.splits → Slots blocks l.fn.directory (node l.fn.way.hash (l.fn.way.depth + j) / 8192))
          → (now : Blocks)
          × ((j : ℕ) → j < l.splits → Slots now l.directory (node l.fn.way.hash (l.fn.way.depth + j) / 8192))
          × ((r : Result Unit Fault) (e : g.row.D.Denot)
          → Trace did l.device (split_writes now pairs l.fn.way.hash l.way.depth (l.splits - l.counter)) (Ok tt) r e
          → Trace did l.fn.device (split_writes blocks pairs l.fn.way.hash l.fn.way.depth l.splits) (Ok tt) r e);
    }
