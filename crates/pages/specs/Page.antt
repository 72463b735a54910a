-- A page of pairs, as it is read: 1,024 bytes, little-endian.
--
--    0      2        4          6                    last offset                 1,024
--    | n    | key 0  | value 0  | key 1 ..  | free   | .. value 1 key 1 value 0 key 0 |
--
-- A count n, then n offsets in twos: where a key starts, and where its value does. The first key ends at 1,024, each value
-- ends where its key starts, and each later key ends where the value before it starts.
use Rattle.std.specs.Prelude.{◌≡◌, ℕ, zero, suc, ◌+◌, ◌*◌, ◌/◌, ◌%◌, ◌<◌, ◌≤◌, false, cond, List, [], ◌∷◌, map, length, Some, None, Option, slice_index}
use Rattle.std.specs.List.{between, range_with_len}
use Rattle.keys.specs.Same.{same}

-- a key and its value
abbrev pub Pair : Type 0
Pair = List ℕ × List ℕ

-- every number is a byte
abbrev pub Bytes : List ℕ → Type 0
Bytes s = (i : ℕ) → slice_index s i < 256

-- the 16-bit number at byte i
abbrev pub word : List ℕ → ℕ → ℕ
word s i = slice_index s i + slice_index s (i + 1) * 256

-- how many offsets, and how many pairs
abbrev pub count : List ℕ → ℕ
count page = word page 0

abbrev pub pairs : List ℕ → ℕ
pairs page = count page / 2

-- where the key of pair k starts, and where its value does
abbrev pub key_at : List ℕ → ℕ → ℕ
key_at page k = word page (4 * k + 2)

abbrev pub val_at : List ℕ → ℕ → ℕ
val_at page k = word page (4 * k + 4)

-- where the key of pair k ends
abbrev pub key_end : List ℕ → ℕ → ℕ
key_end page zero = 1024
key_end page (suc k) = val_at page k

abbrev pub key_of : List ℕ → ℕ → List ℕ
key_of page k = between (key_at page k) (key_end page k) page

abbrev pub val_of : List ℕ → ℕ → List ℕ
val_of page k = between (val_at page k) (key_at page k) page

abbrev pub pair_of : List ℕ → ℕ → Pair
pair_of page k = (key_of page k, val_of page k)

-- the pairs of a page, in their order
abbrev pub pairs_of : List ℕ → List Pair
pairs_of page = map (pair_of page) (range_with_len 0 (pairs page))

-- the first m keys have a byte or more, and no offset of the first m pairs lies above the end that belongs to it
abbrev pub Laid : List ℕ → ℕ → Type 0
Laid page m = (k : ℕ) → k < m → (key_at page k < key_end page k) × (val_at page k ≤ key_at page k)

-- no key of the first m pairs occurs twice
abbrev pub Apart : List ℕ → ℕ → Type 0
Apart page m = (i j : ℕ) → (i < j) × (j < m) → same (key_of page i) (key_of page j) ≡ false

pub record Good (page : List ℕ) : Type 0 where
  pub whole : length page ≡ 1024
  pub even : count page % 2 ≡ 0
  pub few : count page ≤ 510
  pub laid : Laid page (pairs page)
  pub room : 2 * (count page + 1) ≤ key_end page (pairs page)
  pub apart : Apart page (pairs page)

-- the pair with the same key, in a list of pairs
abbrev pub look : List ℕ → List Pair → Option Pair
look key [] = None
look key (p ∷ ps) = cond (same p.0 key) (Some p) (look key ps)
