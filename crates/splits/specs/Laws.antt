-- What the writes of a store and of a delete make of the contents, also where they are cut short.
use Rattle.std.specs.Prelude.{◌≡◌, ℕ, ◌+◌, ◌<◌, ◌≤◌, Bool, true, false, cond, List, [], length, take, None, Some}
use Rattle.contents.specs.Contents.{Contents, held}
use Rattle.directory.specs.Tree.{NoneUnder, depth_of}
use Rattle.keys.specs.Hash.{hash}
use Rattle.keys.specs.Same.{same}
use Rattle.page_edits.specs.Edit.{with_pair}
use Rattle.page_edits.specs.Write.{Fits}
use Rattle.pages.specs.Page.{Pair}
use Rattle.splits.specs.Plan.{MaySplit, fits_at, plan}
use Rattle.splits.specs.Writes.{all_made, deleting, depth_at, made, others, pairs_at, storing}

-- a set bit stands under a set bit
abbrev pub Grown : (ℕ → Bool) → Type 0
Grown bits = (i : ℕ) → bits i ≡ false → NoneUnder bits i

-- what is true of the contents of every database that was blank once
pub record Sound (c : Contents) : Type 0 where
  pub grown : Grown c.bits
  pub past : (i : ℕ) → 32767 ≤ i → c.bits i ≡ false
  pub fits : (p : ℕ) → Fits (c.pages p)

pub record Blank (c : Contents) : Type 0 where
  pub clear : (i : ℕ) → c.bits i ≡ false
  pub empty : (p : ℕ) → c.pages p ≡ []

abbrev pub BlankSound : Type 0
BlankSound = (c : Contents) → Blank c → Sound c

-- splits down to depth 15 may always be made, so none meets a set bit under its own
abbrev pub SplitsFree : Type 0
SplitsFree = (c : Contents) → Sound c → (h s : ℕ) → depth_of c.bits h + s ≤ 15 → MaySplit c.bits h (depth_of c.bits h) s

-- a store that is cut short anywhere before its last write changes no pair, and one that is not is an update at its key
pub record StoreIs (s : ℕ) (c : Contents) (key value : List ℕ) : Type 0 where
  pub cut : (n : ℕ) → n < length (storing s c key value) → (k : List ℕ) → held (all_made (take n (storing s c key value)) c) k ≡ held c k
  pub whole : (k : List ℕ) → held (all_made (storing s c key value) c) k ≡ cond (same key k) (Some (key, value)) (held c k)

abbrev pub Stores : Type 0
Stores = (s : ℕ) (c : Contents) (key value : List ℕ) → MaySplit c.bits (hash key) (depth_at c key) s → StoreIs s c key value

abbrev pub Deletes : Type 0
Deletes = (c : Contents) (key k : List ℕ) → held (made (deleting c key) c) k ≡ cond (same key k) None (held c k)

-- the pair fits in the end, and every front of the writes leaves every page good
abbrev pub Planned : ℕ → Contents → List ℕ → List ℕ → Type 0
Planned s c key value = Fits (with_pair (others (pairs_at c key) key (depth_at c key + s)) key value)

abbrev pub StoresSound : Type 0
StoresSound = (s : ℕ) (c : Contents) (key value : List ℕ)
    → Sound c
    → depth_at c key + s ≤ 15
    → Planned s c key value
    → (n : ℕ) → Sound (all_made (take n (storing s c key value)) c)

abbrev pub DeletesSound : Type 0
DeletesSound = (c : Contents) (key : List ℕ) → Sound c → Sound (made (deleting c key) c)

-- on a sound page room alone decides whether the pair fits
abbrev pub RoomDecides : Type 0
RoomDecides = (pairs : List Pair) (key value : List ℕ) (t : ℕ) → Fits pairs → 0 < length key
    → (fits_at pairs key value t ≡ true → Fits (with_pair (others pairs key t) key value))
    × (Fits (with_pair (others pairs key t) key value) → fits_at pairs key value t ≡ true)

-- the plan is the least number of splits that does, and there is none exactly where none does
pub record PlanIs (pairs : List Pair) (key value : List ℕ) (t : ℕ) : Type 0 where
  pub some : (s : ℕ) → plan pairs key value t ≡ Some s → (s ≤ 10) × (t + s ≤ 15) × (fits_at pairs key value (t + s) ≡ true) × ((r : ℕ) → r < s → fits_at pairs key value (t + r) ≡ false)
  pub none : plan pairs key value t ≡ None → (s : ℕ) → s ≤ 10 → t + s ≤ 15 → fits_at pairs key value (t + s) ≡ false

abbrev pub PlansLeast : Type 0
PlansLeast = (pairs : List Pair) (key value : List ℕ) (t : ℕ) → t ≤ 15 → PlanIs pairs key value t
