use Rattle.std.proofs.Common.{sym, subst}
use Rattle.bench_api.proofs.Updated.{through_cache}
use Rattle.bench_api.proofs.runs.stores.Goals as goal
use Rattle.bench_api.specs.Runs.{Stores, slots_of}
use Rattle.cache.specs.InUse.{in_use}
use Rattle.upkeep.specs.Holding.{backing_of}

pub returns-then-cached : goal.returns-then-cached
returns-then-cached g c =
    let M = g.D.Device.meaning in
    let slots = slots_of c.args.names.now in
    let value = c.args.value.now in
    let cache = c.in_ok-cache.cache in
    subst (λ (e : g.row.D.Denot). Stores (M c.args.device) slots value (backing_of (M e))) (sym c.into_below.ensures)
    (through_cache (M c.args.device) (M cache.below) _ (in_use cache.queue) c.new.ensures.meaning slots value c.in_ok-cache.ensures)
