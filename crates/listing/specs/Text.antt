-- Bytes as text in which every byte can be told.
use Rattle.std.specs.Prelude.{◌≡◌, ℕ, ◌+◌, ◌/◌, ◌%◌, ◌<◌, ◌≤◌, Bool, cond, not, ◌&&◌, List, [], ◌∷◌, ◌++◌, length, ◌==◌, ◌≢◌, nat_le, nat_lt, slice_index}

-- the character of a hexadecimal digit, in lower case
abbrev pub digit : ℕ → ℕ
digit n = cond (nat_lt n 10) (48 + n) (87 + n)

abbrev pub two_digits : ℕ → List ℕ
two_digits b = digit (b / 16) ∷ digit (b % 16) ∷ []

-- whether a byte stands as itself: from blank to tilde, but no quote and no backslash
abbrev pub plain : ℕ → Bool
plain b = nat_le 32 b && nat_lt b 127 && not (b == 34) && not (b == 92)

-- a byte as itself, or as \x and two digits
abbrev pub shown_byte : ℕ → List ℕ
shown_byte b = cond (plain b) (b ∷ []) (92 ∷ 120 ∷ two_digits b)

abbrev pub each : (ℕ → List ℕ) → List ℕ → List ℕ
each f [] = []
each f (b ∷ bs) = f b ++ each f bs

-- bytes between quotes, and bytes in hexadecimal
abbrev pub quoted_bytes : List ℕ → List ℕ
quoted_bytes bs = 34 ∷ (each shown_byte bs ++ 34 ∷ [])

abbrev pub hex_bytes : List ℕ → List ℕ
hex_bytes bs = each two_digits bs

-- n is where the first line of these bytes ends: at a line feed, or at the end
abbrev pub LineEnds : List ℕ → ℕ → Type 0
LineEnds s n = (n ≤ length s) × ((k : ℕ) → k < n → slice_index s k ≢ 10) × (n < length s → slice_index s n ≡ 10)
