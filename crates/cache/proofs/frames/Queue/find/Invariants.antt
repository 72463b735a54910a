use Rattle.std.proofs.Common.{◌≡◌, ℕ, ◌<◌, ◌≤◌, length}
use Rattle.cache.proofs.frames.Queue.find.Given as goal
use Rattle.cache.specs.InUse.{in_use}
use Rattle.cache.specs.Whole.{at}

abbrev pub invariant-loop-age : goal.invariant-loop-age
invariant-loop-age l = (j : ℕ) → l.age ≤ j → j < length (in_use l.self) → (at (in_use l.self) j).number ≡ l.n → ⊥
