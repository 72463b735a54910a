-- How many splits a store makes.
use Rattle.std.specs.Prelude.{ℕ, suc, ◌+◌, ◌-◌, ◌*◌, ◌<◌, ◌≤◌, Bool, List, length, min, Option, find, nat_le}
use Rattle.directory.specs.Tree.{NoneUnder, node}
use Rattle.page_edits.specs.Edit.{with_pair}
use Rattle.page_edits.specs.Write.{size}
use Rattle.pages.specs.Page.{Pair}
use Rattle.splits.specs.Writes.{others}
use Rattle.std.specs.List.{range_with_len}

-- pairs take this many bytes of a page, and have to be at most 1,024
abbrev pub has_room : List Pair → Bool
has_room pairs = nat_le (2 + (4 * length pairs + size pairs)) 1024

-- the pair fits beside the others that stay on the key's page after splits down to depth t
abbrev pub fits_at : List Pair → List ℕ → List ℕ → ℕ → Bool
fits_at pairs key value t = has_room (with_pair (others pairs key t) key value)

-- The least number of splits, from depth t on, after which the pair fits: at most 10, and none below depth 15. From depth 15
-- on only 0 is tried.
unfoldable pub plan : List Pair → List ℕ → List ℕ → ℕ → Option ℕ
plan pairs key value t = find (λ s. fits_at pairs key value (t + s)) (range_with_len 0 (suc (min 10 (15 - t))))

-- s splits may be made: none is below depth 15, and none sets a bit that has a set bit under it
pub record MaySplit (bits : ℕ → Bool) (h t s : ℕ) : Type 0 where
  pub limit : t + s ≤ 15
  pub clear : (j : ℕ) → j < s → suc (t + j) < 15 → NoneUnder bits (node h (t + j))
