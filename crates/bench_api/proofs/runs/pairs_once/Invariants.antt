use Rattle.std.proofs.Common.{◌≡◌, ◌+◌, length}
use Rattle.bench_api.specs.Runs.{pairs_held}
use Rattle.contents.specs.Blocks.{blocks_of}
use Rattle.contents.specs.Contents.{contents_of, remaining}
use Rattle.bench_api.proofs.runs.pairs_once.Given as goal

-- the blocks stay, and the pairs are those that were counted and those that remain
abbrev pub invariant-loop-next : goal.invariant-loop-next
invariant-loop-next g l =
    (blocks_of (g.D.Device.meaning l.database.device) ≡ blocks_of (g.D.Device.meaning l.fn.database.device))
    × (
    l.count + length (remaining (contents_of (blocks_of (g.D.Device.meaning l.fn.database.device))) l.at)
    ≡ pairs_held (contents_of (blocks_of (g.D.Device.meaning l.fn.database.device)))
    )

abbrev pub decreases-loop-next : goal.decreases-loop-next
decreases-loop-next g l = length (remaining (contents_of (blocks_of (g.D.Device.meaning l.database.device))) l.at)
