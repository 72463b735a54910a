use Rattle.upkeep.proofs.Worked.{cases}
use Rattle.upkeep.proofs.worked_stores.Goals as goal

pub returns : goal.returns
returns c = record { cases = cases }
