-- The laws of written pages, and the worked cases.
use Rattle.std.specs.Prelude.{◌≡◌, ℕ, ◌+◌, ◌*◌, ◌<◌, false, List, [], ◌∷◌, ◌++◌, length, take, drop, replicate}
use Rattle.keys.specs.Hash.{hash}
use Rattle.keys.specs.Same.{same}
use Rattle.pages.specs.Page.{Bytes, Good, Pair, count, pairs_of}
use Rattle.page_edits.specs.Write.{Fits, free, le2, len_of, shape, written}

-- the written page of a list that fits is good and reads as that list
abbrev pub ReadsBack : Type 0
ReadsBack = (ps : List Pair) → Fits ps → Good (written ps) × (pairs_of (written ps) ≡ ps)

-- the free middle of a good page
abbrev pub middle : List ℕ → List ℕ
middle page = take (free (pairs_of page)) (drop (2 * count page + 2) page)

-- the pairs of a good page fit, and the page is they and its free middle
abbrev pub Parts : Type 0
Parts = (page : List ℕ) → Bytes page → Good page → Fits (pairs_of page) × (page ≡ shape (pairs_of page) (middle page))

-- a good page with zeros in its free middle is the written page of its pairs: a list has no other
abbrev pub OnePage : Type 0
OnePage = (page : List ℕ) → Bytes page → Good page → middle page ≡ replicate (free (pairs_of page)) 0 → page ≡ written (pairs_of page)

-- a good page, read and written again, reads the same
abbrev pub SameAgain : Type 0
SameAgain = (page : List ℕ) → Bytes page → Good page → Good (written (pairs_of page)) × (pairs_of (written (pairs_of page)) ≡ pairs_of page)

-- n = 2 with these offsets, and zeros elsewhere
abbrev pub two_offsets : ℕ → ℕ → List ℕ
two_offsets a b = le2 2 ++ (le2 a ++ (le2 b ++ replicate 1018 0))

pub record Cases : Type 0 where
  pub hash_a : hash (0x61 ∷ []) ≡ 97
  pub hash_ab : hash (0x61 ∷ 0x62 ∷ []) ≡ 6363201
  pub hash_abc : hash (0x61 ∷ 0x62 ∷ 0x63 ∷ []) ≡ 807794786
  pub hash_80 : hash (0x80 ∷ []) ≡ 128
  -- the pairs (a, 12) and (b, empty)
  pub two_pairs : written ((0x61 ∷ [], 0x31 ∷ 0x32 ∷ []) ∷ (0x62 ∷ [], []) ∷ [])
      ≡ 0x04 ∷ 0x00 ∷ 0xff ∷ 0x03 ∷ 0xfd ∷ 0x03 ∷ 0xfc ∷ 0x03 ∷ 0xfc ∷ 0x03 ∷ (replicate 1010 0 ++ (0x62 ∷ 0x31 ∷ 0x32 ∷ 0x61 ∷ []))
  pub last_six : Good (two_offsets 1023 6)
  pub last_five : Good (two_offsets 1023 5) → ⊥
  -- beside one pair of 1,008 bytes a pair of 6 fits, and one of 7 does not
  pub six_more : (p q : Pair) → len_of p ≡ 1008 → len_of q ≡ 6 → 0 < length p.0 → 0 < length q.0 → same p.0 q.0 ≡ false → Fits (p ∷ q ∷ [])
  pub seven_more : (p q : Pair) → len_of p ≡ 1008 → len_of q ≡ 7 → Fits (p ∷ q ∷ []) → ⊥
