-- What holds of the contents of every database, whatever its blocks are.
use Rattle.std.specs.Prelude.{◌≡◌, ℕ, true, false, List, [], ◌∷◌, Some, None, Decides}
use Rattle.contents.specs.Blocks.{Blocks}
use Rattle.contents.specs.Contents.{Contents, Holds, Position, contents_of, held, remaining}
use Rattle.contents.specs.Test.{is_good, place_of}
use Rattle.keys.specs.Same.{same}
use Rattle.pages.specs.Page.{Good, Pair}
use Rattle.pages.specs.Read.{Found}
use Rattle.std.specs.List.{Contains, IsDistinct}

-- no two pairs of a list have the same key
abbrev pub Differ : List Pair → Type 0
Differ pairs = IsDistinct (λ a b. same a.0 b.0) pairs

-- no page has a key twice
abbrev pub Tidy : Contents → Type 0
Tidy c = (p : ℕ) → Differ (c.pages p)

-- the test is true exactly of the good pages
abbrev pub TestsGood : Type 0
TestsGood = (page : List ℕ) → Decides (is_good page) (Good page)

-- and of a good page the place of a value is what a search finds
abbrev pub PlaceFound : Type 0
PlaceFound = (page key : List ℕ) → Good page → Found page key (place_of page key)

-- the keys of the pairs of each page differ
abbrev pub PagesTidy : Type 0
PagesTidy = (blocks : Blocks) → Tidy (contents_of blocks)

-- the pair that is held for a key is the one pair held with the same key
pub record HeldIs (c : Contents) (key : List ℕ) : Type 0 where
  pub some : (pair : Pair) → held c key ≡ Some pair → Holds c pair × (same pair.0 key ≡ true)
  pub only : (pair : Pair) → Holds c pair → same pair.0 key ≡ true → held c key ≡ Some pair
  pub none : held c key ≡ None → (pair : Pair) → Holds c pair → same pair.0 key ≡ false

abbrev pub HoldsOnce : Type 0
HoldsOnce = (c : Contents) → Tidy c → (key : List ℕ) → HeldIs c key

-- these are exactly the pairs that are held, each once, order aside
pub record Exactly (c : Contents) (pairs : List Pair) : Type 0 where
  pub differ : Differ pairs
  pub held : (pair : Pair) → Contains pairs pair → Holds c pair
  pub all : (pair : Pair) → Holds c pair → Contains pairs pair

-- A walk: a step from a position shows the first of the pairs that remain, and the rest remain from the position that it
-- answers; at the end none remains.
abbrev pub Walk : Contents → Position → List Pair → Type 0
Walk c at [] = remaining c at ≡ []
Walk c at (pair ∷ pairs) = (next : Position) × (remaining c at ≡ pair ∷ remaining c next) × Walk c next pairs

-- a walk from the start shows exactly the pairs held, each once
abbrev pub WalkShows : Type 0
WalkShows = (c : Contents) → Tidy c → (pairs : List Pair) → Walk c (0, 0) pairs → Exactly c pairs
