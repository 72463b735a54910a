-- The directory: a binary tree of 32,767 bits. A lookup goes down from the root for as long as the bit where it stands is set.
use Rattle.std.specs.Prelude.{◌≡◌, ℕ, zero, suc, ◌+◌, ◌*◌, ◌/◌, ◌%◌, ◌^◌, ◌<◌, ◌≤◌, Bool, true, false, cond, List, Some, None, Option, ◌==◌, nat_lt, slice_index}

-- bit number t of h: 0 or 1
abbrev pub bit : ℕ → ℕ → ℕ
bit h t = h / 2 ^ t % 2

-- the low t bits of h
abbrev pub low : ℕ → ℕ → ℕ
low h t = h % 2 ^ t

-- Bit i of the directory is bit i mod 8, lowest first, of byte i / 8.
-- Past the end of the bytes each bit is clear, and bits from 32,767 on do not count.
unfoldable pub bits_of : List ℕ → ℕ → Bool
bits_of bytes i = cond (nat_lt i 32767) (bit (slice_index bytes (i / 8)) (i % 8) == 1) false

-- the index under index i that a hash bit names
abbrev pub child : ℕ → ℕ → ℕ
child i b = cond (b == 0) (2 * i + 1) (2 * i + 2)

-- The lookup of h from index i at depth t, with n levels left down to depth 15:
-- while there is a level left and the bit at the index is set, hash bit t names the next index.
abbrev pub descend : (ℕ → Bool) → ℕ → ℕ → ℕ → ℕ → ℕ × ℕ
descend bits h zero i t = (i, t)
descend bits h (suc n) i t = cond (bits i) (descend bits h n (child i (bit h t)) (suc t)) (i, t)

-- the lookup of h: the index and the depth at which it ends
unfoldable pub lookup : (ℕ → Bool) → ℕ → ℕ × ℕ
lookup bits h = descend bits h 15 0 0

unfoldable pub index_of : (ℕ → Bool) → ℕ → ℕ
index_of bits h = (lookup bits h).0

unfoldable pub depth_of : (ℕ → Bool) → ℕ → ℕ
depth_of bits h = (lookup bits h).1

-- the page at which the lookup of h ends
abbrev pub page_of : (ℕ → Bool) → ℕ → ℕ
page_of bits h = low h (depth_of bits h)

-- a page is reachable when the lookup of its own number, taken as a hash, ends at it
abbrev pub Reachable : (ℕ → Bool) → ℕ → Type 0
Reachable bits p = page_of bits p ≡ p

-- The rest is for the laws, which say the same in other words.

-- the index at depth t on the way of h, whether or not the lookup gets there
abbrev pub node : ℕ → ℕ → ℕ
node h zero = 0
node h (suc t) = 2 * node h t + 1 + bit h t

-- the bit to test at depth t on the way of h
abbrev pub BitOnWay : ℕ → ℕ → Option ℕ → Type 0
BitOnWay h t (Some i) = (t < 15) × (i ≡ node h t) × (i < 32767)
BitOnWay h t None = t ≡ 15

-- a lookup of h ends at depth d: each bit above is set, and the bit there is clear unless d is 15
pub record Ends (bits : ℕ → Bool) (h d : ℕ) : Type 0 where
  pub limit : d ≤ 15
  pub above : (s : ℕ) → s < d → bits (node h s) ≡ true
  pub clear : d < 15 → bits (node h d) ≡ false

-- the bits after bit i is set
abbrev pub set_bit : (ℕ → Bool) → ℕ → ℕ → Bool
set_bit bits i j = cond (j == i) true (bits j)

-- neither bit right under index i is set
abbrev pub NoneUnder : (ℕ → Bool) → ℕ → Type 0
NoneUnder bits i = (bits (2 * i + 1) ≡ false) × (bits (2 * i + 2) ≡ false)
