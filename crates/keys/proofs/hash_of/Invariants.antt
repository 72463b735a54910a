use Rattle.std.proofs.Common.{◌≡◌, take, fold}
use Rattle.keys.specs.Hash.{step}
use Rattle.keys.proofs.hash_of.Given as goal

abbrev pub invariant-loop-b : goal.invariant-loop-b
invariant-loop-b l = l.h ≡ fold step 0 (take l.b-index l.key)
