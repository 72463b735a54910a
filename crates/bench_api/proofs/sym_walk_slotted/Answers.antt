use Rattle.std.proofs.Common.{ℕ, ◌*◌, List, subst}
use Rattle.bench_api.specs.Runs.{Counts, pairs_held}
use Rattle.contents.specs.Blocks.{blocks_of}
use Rattle.contents.specs.Contents.{contents_of}
use Rattle.slotted.specs.Image.{meaning_of}
use Rattle.bench_api.proofs.sym_walk_slotted.Goals as goal

pub returns : goal.returns
returns c = subst (λ (items : List ℕ). Counts (c.args.rounds * pairs_held (contents_of (blocks_of (meaning_of items)))) c.walks.result) c.in-Some.ensures c.walks.ensures
