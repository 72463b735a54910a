-- The reference list: the pairs that an ordinary list would have, fed each call's arguments and whether it was accepted.
use Rattle.std.specs.Prelude.{ℕ, List, Ok, Result}
use Rattle.faults.specs.declared.Fault.{Fault}
use Rattle.page_edits.specs.Edit.{dropped, with_pair}
use Rattle.pages.specs.Page.{Pair}
use Rattle.runs.specs.declared.Answer.{Answer}
use Rattle.runs.specs.declared.Call.{Call}
use Rattle.runs.specs.declared.Call.TheVariants.{Delete, Put, Store}

-- An accepted store or put drops the key's pair, if any, and adds the given one; an accepted delete only drops it. Nothing else
-- changes the list.
abbrev pub fed : {K Kind : Type 0} → (K → List ℕ) → List Pair → Call K Kind → Result (Answer K) Fault → List Pair
fed code pairs (Store key value mode) (Ok _) = with_pair (dropped key.now pairs) key.now value.now
fed code pairs (Put key x) (Ok _) = with_pair (dropped key.now pairs) key.now (code x)
fed code pairs (Delete key) (Ok _) = dropped key.now pairs
fed code pairs c r = pairs
