use Rattle.std.proofs.Common.{◌≡◌, ◌+◌, ◌≤◌, List, length, ◌++◌}
use Rattle.runs.proofs.run.Given as goal
use Rattle.runs.specs.Performed.{Ran}
use Rattle.runs.specs.declared.Outcome.{Outcome}
use Rattle.std.specs.Prelude.{vec_capacity, vec_len}
use Rattle.std.specs.Vec.Iter.{into_iter_items, into_iter_len}

-- There is room for all outcomes, and the calls that are left, after those that were made, are the whole run.
abbrev pub invariant-loop-call : goal.invariant-loop-call
invariant-loop-call g l =
    let left = into_iter_items l.call-iterator in
    let ran = Ran g.D.Device.steps g.D.Device.meaning g.K.Kinds.code g.K.Kinds.decoded in
    record {
      count : into_iter_len l.call-iterator ≡ length left;
      room : vec_len l.outcomes + length left ≤ vec_capacity l.outcomes;
      rest : (os : List (Outcome g.row.K.Denot)) (e : g.row.D.Denot) → ran left os l.database.device e → ran (into_iter_items l.initial.call-iterator) (l.outcomes.items ++ os) l.fn.database.device e;
    }
