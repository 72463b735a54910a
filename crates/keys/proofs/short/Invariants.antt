use Rattle.std.proofs.Common.{◌≡◌, length, take, fold}
use Rattle.keys.specs.Print.{blend}
use Rattle.keys.proofs.short.Given as goal

abbrev pub invariant-loop-b : goal.invariant-loop-b
invariant-loop-b l = l.h ≡ fold blend (length l.key) (take l.b-index l.key)
