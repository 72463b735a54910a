-- Which pairs of a page are kept.
use Rattle.std.specs.Prelude.{ℕ, Bool, not, List, None, Some, Option, ◌&&◌}
use Rattle.std.specs.Borrow.{Bor}
use Rattle.keys.specs.Same.{same}
use Rattle.pages.specs.Page.{Pair}
use Rattle.page_edits.specs.Edit.{dropped, falls}

-- a list without the pair of a key, where one is given
abbrev pub all_but : Option (Bor (List ℕ)) → List Pair → List Pair
all_but None ps = ps
all_but (Some key) ps = dropped key.now ps

-- whether the pair of a key is kept
abbrev pub stays : Option (Bor (List ℕ)) → ℕ → ℕ → List ℕ → Bool
stays None bits low key = falls bits low key
stays (Some other) bits low key = falls bits low key && not (same key other.now)
