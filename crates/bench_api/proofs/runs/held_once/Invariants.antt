use Rattle.std.proofs.Common.{◌≡◌, take}
use Rattle.bench_api.specs.Runs.{held_among}
use Rattle.contents.specs.Blocks.{blocks_of}
use Rattle.contents.specs.Contents.{contents_of}
use Rattle.bench_api.proofs.runs.held_once.Given as goal

-- the blocks stay, and the names up to this one are counted
abbrev pub invariant-loop-slot : goal.invariant-loop-slot
invariant-loop-slot g l =
    (blocks_of (g.D.Device.meaning l.database.device) ≡ blocks_of (g.D.Device.meaning l.fn.database.device))
    × (l.count ≡ held_among (contents_of (blocks_of (g.D.Device.meaning l.fn.database.device))) (take l.slot-index l.slots))
