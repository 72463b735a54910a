-- The calls that a fetch and a step make write nothing.
use Rattle.std.proofs.Common.{◌+◌, ◌-◌, ◌==◌, ℕ, zero, suc, List, [], ◌∷◌, length, cond, Option, Some, None, Ok, Err, Result}
use Rattle.calls.specs.Fetch.{fetch_calls}
use Rattle.calls.specs.Step.{Shows, calls_from, onward, reachable, step_calls, visit_calls, visited}
use Rattle.contents.specs.Blocks.{Blocks, bits_in}
use Rattle.contents.specs.Contents.{Position}
use Rattle.devices.specs.Step.{Call}
use Rattle.faults.specs.declared.Fault.{Fault}
use Rattle.keys.specs.Hash.{hash}
use Rattle.lookup.specs.Reads.{home_calls, lookup_calls, lookup_reads, reads}
use Rattle.std.proofs.lemmas.Bool.{cond_both}
use Rattle.upkeep.proofs.Quiet.{AllQuiet, home_quiet, quiet_append, quiet_reads}

pub fetch_quiet : (blocks : Blocks) (key : List ℕ) (size : ℕ) → AllQuiet (fetch_calls blocks key size)
fetch_quiet blocks key size =
    let calls = home_calls blocks (hash key) in
    cond_both (length key == 0) [] (cond (size == 1024) calls []) AllQuiet
    (λ _. tt)
    (λ _. cond_both (size == 1024) calls [] AllQuiet (λ _. home_quiet blocks (hash key)) (λ _. tt))

visit_quiet : (blocks : Blocks) (p : ℕ) → AllQuiet (visit_calls blocks p)
visit_quiet blocks p =
    let page = (4 + p) ∷ [] in
    let there = reachable blocks p in
    quiet_append (lookup_calls blocks p) (cond there (reads page) []) (quiet_reads (lookup_reads (bits_in blocks) p))
    (cond_both there (reads page) [] AllQuiet (λ _. quiet_reads page) (λ _. tt))

onward_quiet : (v : Result (Option Shows) Fault) (cs : List Call) → AllQuiet cs → AllQuiet (onward v (λ _. []) (λ _. []) cs)
onward_quiet (Ok None) cs q = q
onward_quiet (Ok (Some s)) cs q = tt
onward_quiet (Err f) cs q = tt

visits_quiet : (blocks : Blocks) (k p n : ℕ) → AllQuiet (calls_from blocks k p n)
visits_quiet blocks zero p n = tt
visits_quiet blocks (suc k) p n =
    let rest = calls_from blocks k (suc p) 0 in
    quiet_append (visit_calls blocks p) (onward (visited blocks p n) (λ _. []) (λ _. []) rest) (visit_quiet blocks p)
    (onward_quiet (visited blocks p n) rest (visits_quiet blocks k (suc p) 0))

pub step_quiet : (blocks : Blocks) (at : Position) (size : ℕ) → AllQuiet (step_calls blocks at size)
unfolding step_calls
step_quiet blocks at size =
    let calls = calls_from blocks (32768 - at.0) at.0 at.1 in
    cond_both (size == 1024) calls [] AllQuiet (λ _. visits_quiet blocks (32768 - at.0) at.0 at.1) (λ _. tt)
