-- What a database holds: the pairs at home on reachable pages.
use Rattle.std.specs.Prelude.{◌≡◌, ℕ, ◌-◌, Bool, cond, List, [], drop, Option, filter, ◌==◌}
use Rattle.contents.specs.Blocks.{Blocks, bits_in, page_in}
use Rattle.contents.specs.Test.{is_good}
use Rattle.directory.specs.Tree.{Reachable, page_of}
use Rattle.keys.specs.Hash.{hash}
use Rattle.pages.specs.Page.{Pair, look, pairs_of}
use Rattle.std.specs.List.{Contains, flat_map, range_with_len}

-- a directory, and the pairs that stand on each page
pub record Contents : Type 0 where
  pub bits : ℕ → Bool
  pub pages : ℕ → List Pair

-- a page that is not good has no pairs
abbrev pub pairs_in : List ℕ → List Pair
pairs_in page = cond (is_good page) (pairs_of page) []

unfoldable pub contents_of : Blocks → Contents
contents_of blocks = record { bits = bits_in blocks; pages = λ p. pairs_in (page_in blocks p) }

-- the page at which the lookup of a key's hash ends
abbrev pub home : Contents → List ℕ → ℕ
home c key = page_of c.bits (hash key)

-- a pair on a reachable page is at home when the lookup of its key's hash ends there; the others are strays
pub record Holds (c : Contents) (pair : Pair) : Type 0 where
  pub page : ℕ
  pub reachable : Reachable c.bits page
  pub there : Contains (c.pages page) pair
  pub at_home : home c pair.0 ≡ page

-- the pair that is held for a key, found on the key's home page
abbrev pub held : Contents → List ℕ → Option Pair
held c key = look key (c.pages (home c key))

-- a page, and a pair's number there
abbrev pub Position : Type 0
Position = ℕ × ℕ

-- the number from which on page q counts, from a position on
abbrev pub start : Position → ℕ → ℕ
start at q = cond (q == at.0) at.1 0

-- the pairs at home on a page from a number on, where the page is reachable
abbrev pub shown : Contents → ℕ → ℕ → List Pair
shown c p n = cond (page_of c.bits p == p) (filter (λ pair. home c pair.0 == p) (drop n (c.pages p))) []

-- the pairs held at or after a position, by page and then number; pages from 32,768 on are past the end
unfoldable pub remaining : Contents → Position → List Pair
remaining c at = flat_map (λ q. shown c q (start at q)) (range_with_len at.0 (32768 - at.0))
