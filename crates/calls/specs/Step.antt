-- What a step of a walk answers where no read is refused, what it reads, and which page it read last.
use Rattle.std.specs.Prelude.{ℕ, zero, suc, ◌+◌, ◌-◌, Bool, cond, List, [], ◌∷◌, ◌++◌, Some, None, Ok, Err, Option, Result, find, ◌==◌}
use Rattle.contents.specs.Blocks.{Blocks, bits_in, page_in}
use Rattle.contents.specs.Contents.{Position}
use Rattle.contents.specs.Test.{is_good}
use Rattle.calls.specs.Fetch.{home_page}
use Rattle.calls.specs.declared.Stepped.{Stepped}
use Rattle.calls.specs.declared.Stepped.TheVariants.{End, Pair}
use Rattle.devices.specs.Step.{Call, fault}
use Rattle.directory.specs.Tree.{page_of}
use Rattle.faults.specs.declared.Fault.{Fault}
use Rattle.faults.specs.declared.Layer.TheVariants.{Database}
use Rattle.faults.specs.declared.Refusal.TheVariants.{NotABlock}
use Rattle.lookup.specs.Pages.{bad_page}
use Rattle.lookup.specs.Reads.{lookup_calls, reads}
use Rattle.pages.specs.Page.{key_of, pairs}
use Rattle.pages.specs.Read.{Place, key_place, val_place}
use Rattle.std.specs.List.{range_with_len}
use Rattle.std.specs.Option.{option_map}

-- what a step shows: where the key and the value of a pair lie in the page, and the position after the pair
abbrev pub Shows : Type 0
Shows = Place × Place × Position

abbrev pub reachable : Blocks → ℕ → Bool
reachable blocks p = page_of (bits_in blocks) p == p

-- the first pair on page p, from number n on, whose key is at home there
abbrev pub pair_shown : List ℕ → ℕ → ℕ → Shows
pair_shown page p i = (key_place page i, val_place page i, (p, i + 1))

abbrev pub first_home : (List ℕ → Bool) → List ℕ → ℕ → ℕ → Option Shows
first_home at_home page p n = option_map (pair_shown page p) (find (λ i. at_home (key_of page i)) (range_with_len n (pairs page - n)))

-- what a visit of page p finds from number n on: nothing where no lookup ends at the page
unfoldable pub visited : Blocks → ℕ → ℕ → Result (Option Shows) Fault
visited blocks p n =
    cond
    (reachable blocks p)
    (cond (is_good (page_in blocks p)) (Ok (first_home (λ key. home_page blocks key == p) (page_in blocks p) p n)) (Err (bad_page (4 + p))))
    (Ok None)

-- a visit looks the page's number up, and reads the page where that lookup ends at it
abbrev pub visit_calls : Blocks → ℕ → List Call
visit_calls blocks p = lookup_calls blocks p ++ cond (reachable blocks p) (reads ((4 + p) ∷ [])) []

-- the page that was read last, before and after a visit
abbrev pub last_page : Blocks → ℕ → List ℕ → List ℕ
last_page blocks p old = cond (reachable blocks p) (page_in blocks p) old

-- the visits go on until one finds a pair or a page that is not good
abbrev pub onward : {X : Type 0} → Result (Option Shows) Fault → (Shows → X) → (Fault → X) → X → X
onward (Ok None) pair bad rest = rest
onward (Ok (Some s)) pair bad rest = pair s
onward (Err f) pair bad rest = bad f

-- the answer of visits to k pages from position (p, n) on, their calls, and the page read last
abbrev pub step_from : Blocks → ℕ → ℕ → ℕ → Result Stepped Fault
step_from blocks zero p n = Ok End
step_from blocks (suc k) p n = onward (visited blocks p n) (λ s. Ok (Pair s)) (λ f. Err f) (step_from blocks k (suc p) 0)

abbrev pub calls_from : Blocks → ℕ → ℕ → ℕ → List Call
calls_from blocks zero p n = []
calls_from blocks (suc k) p n = visit_calls blocks p ++ onward (visited blocks p n) (λ _. []) (λ _. []) (calls_from blocks k (suc p) 0)

abbrev pub page_from : Blocks → ℕ → ℕ → ℕ → List ℕ → List ℕ
page_from blocks zero p n old = old
page_from blocks (suc k) p n old =
    onward (visited blocks p n) (λ _. last_page blocks p old) (λ _. old) (page_from blocks k (suc p) 0 (last_page blocks p old))

-- a step from a position: refused 3 for a buffer that is not a page; pages from 32,768 on are past the end
unfoldable pub stepped : Blocks → Position → ℕ → Result Stepped Fault
stepped blocks at size = cond (size == 1024) (step_from blocks (32768 - at.0) at.0 at.1) (Err (fault NotABlock Database 0))

unfoldable pub step_calls : Blocks → Position → ℕ → List Call
step_calls blocks at size = cond (size == 1024) (calls_from blocks (32768 - at.0) at.0 at.1) []

unfoldable pub step_page : Blocks → Position → List ℕ → List ℕ
step_page blocks at old = page_from blocks (32768 - at.0) at.0 at.1 old
