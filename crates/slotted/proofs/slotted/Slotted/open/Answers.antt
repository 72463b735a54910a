use Rattle.std.proofs.Common.{arith}
use Rattle.slotted.proofs.Opens.{unused}
use Rattle.slotted.proofs.slotted.Slotted.open.Goals as goal

pub overflow_sub-left : goal.overflow_sub-left
overflow_sub-left c =
    let p = rw c.in-Ok-Some.field-0-is at c.in-Ok-Some.ensures in
    omega (arith, c.deref.ensures.len, (unused _ _ _ p).within)
