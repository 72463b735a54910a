-- What holds of every directory, whatever its bits, and of every hash.
use Rattle.std.specs.Prelude.{◌≡◌, ℕ, suc, ◌+◌, ◌*◌, ◌^◌, ◌<◌, Bool, ◌≢◌}
use Rattle.directory.specs.Tree.{bit, low, child, index_of, depth_of, page_of, Reachable, node, Ends, set_bit, NoneUnder}

-- the depth of a lookup is one at which it ends
abbrev pub EndsThere : Type 0
EndsThere = (bits : ℕ → Bool) (h : ℕ) → Ends bits h (depth_of bits h)

-- and there is no other
abbrev pub EndsOnce : Type 0
EndsOnce = (bits : ℕ → Bool) (h d : ℕ) → Ends bits h d → d ≡ depth_of bits h

-- the index of a lookup is the one at its depth on the hash's way
abbrev pub IndexOnWay : Type 0
IndexOnWay = (bits : ℕ → Bool) (h : ℕ) → index_of bits h ≡ node h (depth_of bits h)

-- a hash's way goes down as a lookup does
abbrev pub WayGoesDown : Type 0
WayGoesDown = (h t : ℕ) → node h (suc t) ≡ child (node h t) (bit h t)

-- two ways meet in an index only at one depth, and only if their hashes agree in all bits so far
abbrev pub WaysPart : Type 0
WaysPart = (g h s t : ℕ) → node g s ≡ node h t → (s ≡ t) × (low g s ≡ low h t)

-- a lookup that ends above depth 15 ends at an index that has a bit
abbrev pub IndexBelow : Type 0
IndexBelow = (bits : ℕ → Bool) (h : ℕ) → depth_of bits h < 15 → index_of bits h < 32767

-- page numbers are below 32,768
abbrev pub PageBelow : Type 0
PageBelow = (bits : ℕ → Bool) (h : ℕ) → page_of bits h < 32768

-- the page at which a lookup ends is reachable
abbrev pub PageReachable : Type 0
PageReachable = (bits : ℕ → Bool) (h : ℕ) → Reachable bits (page_of bits h)

-- the hashes that agree with h's page in the low bits of its depth are those whose lookup ends at that page, and at that depth
abbrev pub Home : Type 0
Home = (bits : ℕ → Bool) (g h : ℕ)
    → (low g (depth_of bits h) ≡ page_of bits h → (page_of bits g ≡ page_of bits h) × (depth_of bits g ≡ depth_of bits h))
    × (page_of bits g ≡ page_of bits h → low g (depth_of bits h) ≡ page_of bits h)

-- After the bit where the lookup of h ended is set, a lookup that ended at the same page goes one level
-- deeper, to the half of the page that its next hash bit names, and every other lookup ends where it did.
abbrev pub SplitPage : Type 0
SplitPage = (bits : ℕ → Bool) (h : ℕ)
    → depth_of bits h < 15
    → (suc (depth_of bits h) < 15 → NoneUnder bits (index_of bits h))
    → (g : ℕ)
    → (page_of bits g ≡ page_of bits h
    → (depth_of (set_bit bits (index_of bits h)) g ≡ suc (depth_of bits h))
    × (page_of (set_bit bits (index_of bits h)) g ≡ page_of bits h + bit g (depth_of bits h) * 2 ^ depth_of bits h))
    × ((page_of bits g ≢ page_of bits h)
    → (depth_of (set_bit bits (index_of bits h)) g ≡ depth_of bits g)
    × (page_of (set_bit bits (index_of bits h)) g ≡ page_of bits g))
