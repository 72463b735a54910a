-- Bytes as records of 1,030 bytes: a mark of two bytes, a number of four, a block of 1,024.
use Rattle.std.specs.Prelude.{ℕ, ◌+◌, ◌*◌, ◌/◌, Bool, ◌&&◌, List, ◌∷◌, ◌++◌, length, take, drop, replicate, ◌==◌, slice_index}
use Rattle.slotted.specs.Bytes.{word, le4}
use Rattle.slotted.specs.Table.{Table}

abbrev pub records : List ℕ → ℕ
records s = length s / 1030

-- the mark of a used record is the two bytes 53 44 hexadecimal
abbrev pub marked_at : List ℕ → ℕ → Bool
marked_at s i = slice_index s i == 83 && slice_index s (i + 1) == 68

-- that of a free one is 00 00
abbrev pub blank_at : List ℕ → ℕ → Bool
blank_at s i = slice_index s i == 0 && slice_index s (i + 1) == 0

-- what record k says
unfoldable pub used_at : List ℕ → ℕ → Bool
used_at s k = marked_at s (1030 * k)

unfoldable pub free_at : List ℕ → ℕ → Bool
free_at s k = blank_at s (1030 * k)

unfoldable pub number_at : List ℕ → ℕ → ℕ
number_at s k = word s (1030 * k + 2)

unfoldable pub block_at : List ℕ → ℕ → List ℕ
block_at s k = take 1024 (drop (1030 * k + 6) s)

abbrev pub table_of : List ℕ → Table
table_of s = record { used = used_at s; free = free_at s; number = number_at s }

-- a used record with number n and a block of zeros
unfoldable pub fresh : ℕ → List ℕ
fresh n = 83 ∷ 68 ∷ (le4 n ++ replicate 1024 0)
