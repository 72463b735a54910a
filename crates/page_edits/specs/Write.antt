-- The page that a list of pairs is written as: the pairs in list order, and zeros in the free middle.
use Rattle.std.specs.Prelude.{◌≡◌, ℕ, ◌+◌, ◌-◌, ◌*◌, ◌/◌, ◌%◌, ◌<◌, ◌≤◌, false, List, [], ◌∷◌, ◌++◌, length, replicate, slice_index_or}
use Rattle.keys.specs.Same.{same}
use Rattle.pages.specs.Page.{Pair}
use Rattle.std.specs.List.{AllByRecursion}

-- a 16-bit number as two bytes, the low one first
abbrev pub le2 : ℕ → List ℕ
le2 x = x % 256 ∷ x / 256 % 256 ∷ []

abbrev pub len_of : Pair → ℕ
len_of p = length p.0 + length p.1

-- the bytes of all keys and values
abbrev pub size : List Pair → ℕ
size [] = 0
size (p ∷ ps) = len_of p + size ps

-- the offsets of pairs that lie below e
abbrev pub offs : ℕ → List Pair → List ℕ
offs e [] = []
offs e (p ∷ ps) = le2 (e - length p.0) ++ (le2 (e - len_of p) ++ offs (e - len_of p) ps)

-- the bytes of pairs, packed downwards
abbrev pub body : List Pair → List ℕ
body [] = []
body (p ∷ ps) = body ps ++ (p.1 ++ p.0)

-- a page with these pairs and this free middle
abbrev pub shape : List Pair → List ℕ → List ℕ
shape ps mid = le2 (2 * length ps) ++ (offs 1024 ps ++ (mid ++ body ps))

-- how many bytes are free
abbrev pub free : List Pair → ℕ
free ps = 1022 - 4 * length ps - size ps

unfoldable pub written : List Pair → List ℕ
written ps = shape ps (replicate (free ps) 0)

abbrev pub key_in : List Pair → ℕ → List ℕ
key_in ps i = (slice_index_or ps i ([], [])).0

-- a list fits a page: its keys differ, none is empty, and there is room
pub record Fits (ps : List Pair) : Type 0 where
  pub named : AllByRecursion (λ p. 0 < length p.0) ps
  pub apart : (i j : ℕ) → (i < j) × (j < length ps) → same (key_in ps i) (key_in ps j) ≡ false
  pub room : 2 + (4 * length ps + size ps) ≤ 1024
