use Rattle.std.proofs.Common.{length}
use Rattle.device_runs.proofs.model.+put.Given as goal

abbrev pub decreases-put : goal.decreases-put
decreases-put l = length l.floors.now
