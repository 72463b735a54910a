use Rattle.std.proofs.Common.{◌≡◌}
use Rattle.database.proofs.storing.way_to.Given as goal

abbrev pub invariant-loop : goal.invariant-loop
invariant-loop l = record { hash : l.way.hash ≡ l.fn.hash; depth : l.way.depth ≡ l.counter }
