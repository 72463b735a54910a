use Rattle.std.proofs.Common.{◌≡◌, ◌*◌}
use Rattle.bench_api.specs.Runs.{held_among}
use Rattle.contents.specs.Blocks.{blocks_of}
use Rattle.contents.specs.Contents.{contents_of}
use Rattle.bench_api.proofs.runs.count_held.Given as goal

-- the blocks stay, and each round counts the same
abbrev pub invariant-loop : goal.invariant-loop
invariant-loop g l =
    (blocks_of (g.D.Device.meaning l.database.device) ≡ blocks_of (g.D.Device.meaning l.fn.device))
    × (l.count ≡ l.counter * held_among (contents_of (blocks_of (g.D.Device.meaning l.fn.device))) l.slots)
