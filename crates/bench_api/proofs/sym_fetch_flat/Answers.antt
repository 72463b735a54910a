use Rattle.std.proofs.Common.{ℕ, ◌*◌, List, subst}
use Rattle.bench_api.specs.Runs.{Counts, held_among, slots_of}
use Rattle.contents.specs.Blocks.{blocks_of}
use Rattle.contents.specs.Contents.{contents_of}
use Rattle.flat.specs.Blocks.{flat}
use Rattle.bench_api.proofs.sym_fetch_flat.Goals as goal

pub returns : goal.returns
returns c = subst (λ (items : List ℕ). Counts (c.args.rounds * held_among (contents_of (blocks_of (flat items))) (slots_of c.args.names.now)) c.fetches.result) c.in-Some.ensures c.fetches.ensures
