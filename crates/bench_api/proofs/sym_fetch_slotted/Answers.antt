use Rattle.std.proofs.Common.{ℕ, ◌*◌, List, subst}
use Rattle.bench_api.specs.Runs.{Counts, held_among, slots_of}
use Rattle.contents.specs.Blocks.{blocks_of}
use Rattle.contents.specs.Contents.{contents_of}
use Rattle.slotted.specs.Image.{meaning_of}
use Rattle.bench_api.proofs.sym_fetch_slotted.Goals as goal

pub returns : goal.returns
returns c = subst (λ (items : List ℕ). Counts (c.args.rounds * held_among (contents_of (blocks_of (meaning_of items))) (slots_of c.args.names.now)) c.fetches.result) c.in-Some.ensures c.fetches.ensures
