use Rattle.std.proofs.Common.{◌≡◌, ℕ, ◌*◌, Option, IfSome, subst, sym}
use Rattle.bench_api.proofs.Counted.{counts, through_cache}
use Rattle.bench_api.proofs.runs.walks.Goals.{then-cached, else-cached}
use Rattle.bench_api.proofs.runs.walks.Goals as goal
use Rattle.bench_api.specs.Runs.{pairs_held}
use Rattle.cache.specs.InUse.{in_use}
use Rattle.cache.specs.Shown.{cached}
use Rattle.contents.specs.Blocks.{blocks_of}
use Rattle.contents.specs.Contents.{Contents, contents_of}

pub returns : goal.returns
returns g c =
    let run : Contents → ℕ = λ x. c.args.rounds * pairs_held x in
    let d = g.D.Device.meaning c.args.device in
    let told : IfSome c.if-cached.count (λ k. k ≡ run (contents_of (blocks_of d))) = elim c.if-cached.branch [
      | then-cached w ↦ subst (λ (o : Option ℕ). IfSome o (λ k. k ≡ run (contents_of (blocks_of d)))) (sym w.count-is)
          (through_cache run d (cached (in_use w.new.result.queue) (g.D.Device.meaning w.new.result.below)) w.count_pairs-count.result w.new.ensures.meaning w.count_pairs-count.ensures)
      | else-cached w ↦ subst (λ (o : Option ℕ). IfSome o (λ k. k ≡ run (contents_of (blocks_of d)))) (sym w.count-is) w.count_pairs-count-else-cached.ensures
    ] in
    counts (run (contents_of (blocks_of d))) c.unwrap_or.result c.if-cached.count told c.unwrap_or.ensures
