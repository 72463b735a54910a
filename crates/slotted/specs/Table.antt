-- Which records are used, which are free, and which number each has: what well-formed means speaks of these alone.
use Rattle.std.specs.Prelude.{◌≡◌, ℕ, zero, suc, ◌<◌, Bool, true, false, cond, ◌&&◌, List, length, Some, None, Option, ◌==◌, ◌≢◌, nat_lt, slice_index_or, refl}

pub record Table : Type 0 where
  pub used : ℕ → Bool
  pub free : ℕ → Bool
  pub number : ℕ → ℕ

-- how many of the first k records are used
unfoldable pub used_to : Table → ℕ → ℕ
used_to t zero = 0
used_to t (suc k) = cond (t.used k) (suc (used_to t k)) (used_to t k)

-- one more than the record among the first k that is used and has number n; 0 where there is none
unfoldable pub slot_to : Table → ℕ → ℕ → ℕ
slot_to t n zero = 0
slot_to t n (suc k) = cond (t.used k && t.number k == n) (suc k) (slot_to t n k)

-- record k is free, or it is used, no free record is before it, and its number is below the limit and is on no record before it
unfoldable pub good_at : Table → ℕ → ℕ → Bool
good_at t limit k = cond (t.used k) (used_to t k == k && (nat_lt (t.number k) limit && slot_to t (t.number k) k == 0)) (t.free k)

unfoldable pub good_to : Table → ℕ → ℕ → Bool
good_to t limit zero = true
good_to t limit (suc k) = good_at t limit k && good_to t limit k

-- the record of a slot
abbrev pub record_of : ℕ → Option ℕ
record_of zero = None
record_of (suc k) = Some k

-- the slot of a record
abbrev pub slot_of : Option ℕ → ℕ
slot_of None = 0
slot_of (Some k) = suc k

pub slot_of-record_of : (x : ℕ) → slot_of (record_of x) ≡ x
slot_of-record_of zero = refl
slot_of-record_of (suc k) = refl

-- an index from numbers to those of the first k records
abbrev pub Listed : Table → ℕ → List (Option ℕ) → Type 0
Listed t k index = (n : ℕ) → n < length index → slice_index_or index n None ≡ record_of (slot_to t n k)

-- the first k records were looked at
abbrev pub Scanned : Table → ℕ → List (Option ℕ) → Option ℕ → Type 0
Scanned t k index None = good_to t (length index) k ≡ false
Scanned t k index (Some used) = (good_to t (length index) k ≡ true) × (used ≡ used_to t k) × Listed t k index

-- the same as good_to, each rule for itself
pub record Good (t : Table) (limit many : ℕ) : Type 0 where
  pub marks : (k : ℕ) → k < many → t.used k ≡ false → t.free k ≡ true
  pub order : (j k : ℕ) → j < k → k < many → t.used k ≡ true → t.used j ≡ true
  pub below : (k : ℕ) → k < many → t.used k ≡ true → t.number k < limit
  pub apart : (j k : ℕ) → j < k → k < many → t.used k ≡ true → t.number j ≢ t.number k
