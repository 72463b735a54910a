-- A number below 1,024 that a key decides. It is no part of the format: a page check uses it to tell most keys apart at once.
use Rattle.std.specs.Prelude.{ℕ, zero, suc, ◌+◌, ◌-◌, ◌*◌, ◌/◌, ◌%◌, ◌^◌, cond, List, length, nat_lt, slice_index}

-- the eight bytes from i on as a little-endian number
abbrev pub w8 : List ℕ → ℕ → ℕ
w8 s i =
    slice_index s i + slice_index s (i + 1) * 256 + slice_index s (i + 2) * 65536 + slice_index s (i + 3) * 16777216 + slice_index s (i + 4) * 4294967296
    + slice_index s (i + 5) * 1099511627776 + slice_index s (i + 6) * 281474976710656 + slice_index s (i + 7) * 72057594037927936

-- one more word into the running number
abbrev pub blend : ℕ → ℕ → ℕ
blend h w = (h * 11400714819323198485 % 2 ^ 64 + w) % 2 ^ 64

-- n words, given by their number, one after another
abbrev pub blends : (ℕ → ℕ) → ℕ → ℕ → ℕ
blends word h zero = h
blends word h (suc n) = blend (blends word h n) (word n)

abbrev pub short : List ℕ → ℕ
short key = blends (λ i. slice_index key i) (length key) (length key)

abbrev pub long : List ℕ → ℕ
long key = blend (blends (λ c. w8 key (8 * c)) (length key) ((length key - 1) / 8)) (w8 key (length key - 8))

unfoldable pub print : List ℕ → ℕ
print key = cond (nat_lt (length key) 8) (short key) (long key) * 11400714819323198485 % 2 ^ 64 / 2 ^ 54
