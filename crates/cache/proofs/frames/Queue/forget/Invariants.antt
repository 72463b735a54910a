use Rattle.std.proofs.Common.{◌≡◌, ◌++◌, drop}
use Rattle.cache.proofs.frames.Queue.forget.Given as goal
use Rattle.cache.specs.After.{without}
use Rattle.cache.specs.InUse.{in_use}

-- what is kept so far, and what is to be kept of the rest
abbrev pub invariant-loop-age : goal.invariant-loop-age
invariant-loop-age l = in_use l.kept ++ without (drop l.age (in_use l.self)) l.n ≡ without (in_use l.self) l.n
