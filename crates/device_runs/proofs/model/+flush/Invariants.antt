use Rattle.std.proofs.Common.{length}
use Rattle.device_runs.proofs.model.+flush.Given as goal

abbrev pub decreases-flush : goal.decreases-flush
decreases-flush l = length l.floors.now
