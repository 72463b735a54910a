-- What the edits of a page answer, and what they leave in the buffer.
use Rattle.std.specs.Prelude.{◌≡◌, ℕ, ◌%◌, ◌^◌, Bool, true, false, not, List, [], ◌∷◌, ◌++◌, length, is_some, Ok, Err, filter, Result, ◌==◌, ◌≢◌}
use Rattle.faults.specs.Numbers.{numbers}
use Rattle.faults.specs.declared.Fault.{Fault}
use Rattle.keys.specs.Hash.{hash}
use Rattle.keys.specs.Same.{same}
use Rattle.pages.specs.Page.{Pair, look}
use Rattle.page_edits.specs.Write.{Fits, written}

-- a list with one more pair
abbrev pub with_pair : List Pair → List ℕ → List ℕ → List Pair
with_pair ps key value = ps ++ (key, value) ∷ []

-- a list without the pair that has the key
abbrev pub dropped : List ℕ → List Pair → List Pair
dropped key ps = filter (λ p. not (same p.0 key)) ps

-- whether the low bits of a key's hash are these
abbrev pub falls : ℕ → ℕ → List ℕ → Bool
falls bits low key = hash key % 2 ^ bits == low

-- the pairs whose hashes have these low bits
abbrev pub falling : ℕ → ℕ → List Pair → List Pair
falling bits low ps = filter (λ p. falls bits low p.0) ps

-- a buffer that is not 1,024 bytes is refused 3, and stays as it was
abbrev pub NoBuffer : List ℕ → Fault → List ℕ → Type 0
NoBuffer out f out' = (length out ≢ 1024) × (numbers f ≡ (3, 0, 0)) × (out' ≡ out)

-- the list in the buffer's place before, the answer, and the buffer before and after: written where it fits
abbrev pub Appended : List Pair → List ℕ → Result Bool Fault → List ℕ → Type 0
Appended ps out (Ok true) out' = (length out ≡ 1024) × Fits ps × (out' ≡ written ps)
Appended ps out (Ok false) out' = (length out ≡ 1024) × (Fits ps → ⊥) × (out' ≡ out)
Appended ps out (Err f) out' = NoBuffer out f out'

-- without the key, and whether it was there
abbrev pub Removed : List Pair → List ℕ → List ℕ → Result Bool Fault → List ℕ → Type 0
Removed ps key out (Ok there) out' = (length out ≡ 1024) × (there ≡ is_some (look key ps)) × (out' ≡ written (dropped key ps))
Removed ps key out (Err f) out' = NoBuffer out f out'

abbrev pub Written : List Pair → List ℕ → Result (Unit {0}) Fault → List ℕ → Type 0
Written ps out (Ok u) out' = (length out ≡ 1024) × (out' ≡ written ps)
Written ps out (Err f) out' = NoBuffer out f out'
