use Rattle.std.proofs.Common.{take}
use Rattle.bench_api.specs.Runs.{Stores}
use Rattle.bench_api.proofs.runs.store_each.Given as goal

-- the names up to this one are stored
abbrev pub invariant-loop-slot : goal.invariant-loop-slot
invariant-loop-slot g l = Stores (g.D.Device.meaning l.fn.database.device) (take l.slot-index l.slots) l.value (g.D.Device.meaning l.database.device)
