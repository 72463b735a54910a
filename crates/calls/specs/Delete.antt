-- What a delete answers where none of its calls is refused, and which calls it makes.
use Rattle.std.specs.Prelude.{ℕ, ◌+◌, Bool, cond, List, [], ◌∷◌, ◌++◌, length, is_some, Ok, Err, Result, ◌==◌, ◌&&◌}
use Rattle.contents.specs.Blocks.{Blocks, bits_in}
use Rattle.contents.specs.Test.{is_good, place_of}
use Rattle.calls.specs.Fetch.{home_bytes, home_page}
use Rattle.devices.specs.Step.{Call, fault, write}
use Rattle.directory.specs.Tree.{depth_of}
use Rattle.faults.specs.declared.Fault.{Fault}
use Rattle.faults.specs.declared.Layer.TheVariants.{Database}
use Rattle.faults.specs.declared.Refusal.TheVariants.{EmptyKey}
use Rattle.keys.specs.Hash.{hash}
use Rattle.lookup.specs.Pages.{bad_page}
use Rattle.lookup.specs.Reads.{home_calls}
use Rattle.page_edits.specs.Write.{written}
use Rattle.pages.specs.Page.{Pair, pairs_of}
use Rattle.splits.specs.Writes.{others}

-- the pairs on a key's home page, strays too, and the depth of its lookup
abbrev pub home_pairs : Blocks → List ℕ → List Pair
home_pairs blocks key = pairs_of (home_bytes blocks key)

abbrev pub home_depth : Blocks → List ℕ → ℕ
home_depth blocks key = depth_of (bits_in blocks) (hash key)

-- whether the home page, good or not, has the key
abbrev pub has_key : Blocks → List ℕ → Bool
has_key blocks key = is_some (place_of (home_bytes blocks key) key)

-- the home page without the key's pair, and without strays
abbrev pub delete_write : Blocks → List ℕ → Call
delete_write blocks key = write (4 + home_page blocks key) (written (others (home_pairs blocks key) key (home_depth blocks key)))

-- a lookup and the home page, and its write where it is good and has the key
abbrev pub delete_calls : Blocks → List ℕ → List Call
delete_calls blocks key =
    cond (length key == 0) [] (home_calls blocks (hash key) ++ cond (is_good (home_bytes blocks key) && has_key blocks key) (delete_write blocks key ∷ []) [])

-- whether the key was there
abbrev pub deleted : Blocks → List ℕ → Result Bool Fault
deleted blocks key =
    cond (length key == 0) (Err (fault EmptyKey Database 0))
    (cond (is_good (home_bytes blocks key)) (Ok (has_key blocks key)) (Err (bad_page (4 + home_page blocks key))))
