use Rattle.std.proofs.Common.{◌-◌, ◌^◌}
use Rattle.listing.proofs.lister.Lister.tell_pairs.Given as goal

abbrev pub decreases-loop-fault : goal.decreases-loop-fault
decreases-loop-fault g l = 2 ^ 32 - l.first
