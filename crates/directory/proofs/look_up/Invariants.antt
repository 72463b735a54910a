use Rattle.std.proofs.Common.{◌≡◌, ℕ, ◌-◌, ◌<◌, true}
use Rattle.directory.specs.Tree.{node, bits_of}
use Rattle.directory.proofs.look_up.Given as goal

-- the lookup is on the hash's way, and every bit above is set
abbrev pub invariant-loop-way : goal.invariant-loop-way
invariant-loop-way l = (l.way.hash ≡ l.hash) × ((s : ℕ) → s < l.way.depth → bits_of l.dir (node l.hash s) ≡ true)

abbrev pub decreases-loop-way : goal.decreases-loop-way
decreases-loop-way l = 15 - l.way.depth
