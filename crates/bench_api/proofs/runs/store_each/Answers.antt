use Rattle.std.proofs.Common.{List, ℕ, arith, subst}
use Rattle.bench_api.proofs.Updated.{one_more}
use Rattle.bench_api.proofs.runs.store_each.Goals as goal
use Rattle.bench_api.specs.Runs.{Updates}

pub loop-slot-preserved : goal.loop-slot-preserved
loop-slot-preserved g c =
    let M = g.D.Device.meaning in
    let value = c.args.value.now in
    let m = M c.loop-slot.database.device in
    let e = M c.store.new.database.device in
    one_more (M c.args.database.now.device) m e c.args.slots.now c.loop-slot.slot-index value (omega (arith, c.loop-slot-test.true)) c.loop-slot.invariant
    (subst (λ (name : List ℕ). Updates m name value e) c.name_of.ensures c.in_ok-store.ensures)
