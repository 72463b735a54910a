-- What each call of a database leaves of the pairs that it holds, whatever it is answered.
use Rattle.std.specs.Prelude.{◌≡◌, ◌≢◌, ℕ, List, [], Bool, ⊤, Ok, Err, Result}
use Rattle.calls.specs.Delete.{delete_calls, deleted}
use Rattle.calls.specs.Store.{store_calls, stored}
use Rattle.calls.specs.declared.Mode.{Mode}
use Rattle.contents.specs.Blocks.{blocks_of}
use Rattle.contents.specs.Contents.{contents_of}
use Rattle.contents.specs.Laws.{Exactly}
use Rattle.devices.specs.Meaning.{Meaning, Sound as Lawful}
use Rattle.devices.specs.Step.{Call, Step, flush}
use Rattle.devices.specs.Trace.{Trace}
use Rattle.faults.specs.Numbers.{refusal_number}
use Rattle.faults.specs.declared.Fault.{Fault}
use Rattle.lookup.specs.Reads.{reads}
use Rattle.page_edits.specs.Edit.{dropped, with_pair}
use Rattle.pages.specs.Page.{Pair}
use Rattle.upkeep.specs.Holding.{BlankBlocks, Holding, backing_of}
use Rattle.upkeep.specs.Refusals.{ByRule}

-- a blank database holds no pair
abbrev pub BlankHolds : Type 0
BlankHolds = (d : Meaning) → Lawful d → BlankBlocks (blocks_of d) → Holding [] d

-- these are exactly the pairs that it holds, order aside
abbrev pub HoldsExactly : Type 0
HoldsExactly = (pairs : List Pair) (d : Meaning) → Holding pairs d → Exactly (contents_of (blocks_of d)) pairs

-- what calls are answered is by the rules of the device
abbrev pub AnsweredByRule : Type 0 → Type 0
AnsweredByRule X = (cs : List Call) (d e : Meaning) (own r : Result X Fault) → Trace Step d cs own r e → ByRule d cs own r e

-- reads and a flush change no pair, and after a flush that was accepted the backing blocks alone hold the same pairs
abbrev pub ReadsKeep : Type 0 → Type 0
ReadsKeep X = (pairs : List Pair) (ns : List ℕ) (d e : Meaning) (own r : Result X Fault) → Holding pairs d → Trace Step d (reads ns) own r e → Holding pairs e

abbrev pub FlushKeeps : Type 0
FlushKeeps = (pairs : List Pair) (d e : Meaning) (r : Result Unit Fault) → Holding pairs d → Step d flush r e
    → Holding pairs e × (r ≡ Ok tt → Holding pairs (backing_of e))

-- an accepted store drops the key's pair, if any, and adds the given one; a refused one changes no pair
abbrev pub stored_pairs : List Pair → List ℕ → List ℕ → Result Unit Fault → List Pair
stored_pairs pairs key value (Ok _) = with_pair (dropped key pairs) key value
stored_pairs pairs key value (Err _) = pairs

abbrev pub StoreKeeps : Type 0
StoreKeeps = (pairs : List Pair) (d e : Meaning) (key value : List ℕ) (mode : Mode) (r : Result Unit Fault)
    → Holding pairs d
    → Trace Step d (store_calls (blocks_of d) key value mode) (stored (blocks_of d) key value mode) r e
    → Holding (stored_pairs pairs key value r) e

-- an accepted delete only drops it
abbrev pub deleted_pairs : List Pair → List ℕ → Result Bool Fault → List Pair
deleted_pairs pairs key (Ok _) = dropped key pairs
deleted_pairs pairs key (Err _) = pairs

abbrev pub DeleteKeeps : Type 0
DeleteKeeps = (pairs : List Pair) (d e : Meaning) (key : List ℕ) (r : Result Bool Fault)
    → Holding pairs d
    → Trace Step d (delete_calls (blocks_of d) key) (deleted (blocks_of d) key) r e
    → Holding (deleted_pairs pairs key r) e

-- refusals 6, 7 and 11 do not come from a store or a delete
abbrev pub Never : {X : Type 0} → Result X Fault → Type 0
Never (Ok _) = ⊤
Never (Err f) = (refusal_number f.refusal ≢ 6) × (refusal_number f.refusal ≢ 7) × (refusal_number f.refusal ≢ 11)

abbrev pub StoreNever : Type 0
StoreNever = (pairs : List Pair) (d e : Meaning) (key value : List ℕ) (mode : Mode) (r : Result Unit Fault)
    → Holding pairs d
    → Trace Step d (store_calls (blocks_of d) key value mode) (stored (blocks_of d) key value mode) r e
    → Never r

abbrev pub DeleteNever : Type 0
DeleteNever = (pairs : List Pair) (d e : Meaning) (key : List ℕ) (r : Result Bool Fault)
    → Holding pairs d
    → Trace Step d (delete_calls (blocks_of d) key) (deleted (blocks_of d) key) r e
    → Never r
