-- What bytes mean as a device.
use Rattle.std.specs.Prelude.{◌≡◌, ℕ, zero, suc, ◌-◌, ◌*◌, ◌<◌, ◌≤◌, Bool, true, cond, not, ◌&&◌, List, length, replicate, None, Option, ◌==◌, nat_le, slice_index_or}
use Rattle.devices.specs.Meaning.{Meaning}
use Rattle.devices.specs.Step.{fault}
use Rattle.faults.specs.declared.Layer.TheVariants.{Bottom}
use Rattle.faults.specs.declared.Refusal.TheVariants.{NoClaim}
use Rattle.slotted.specs.Records.{records, block_at, table_of}
use Rattle.slotted.specs.Table.{Good, good_to, record_of, slot_to, used_to}

-- whole records, not too many, and good ones; WellFormed says the same rule by rule
unfoldable pub well_formed : List ℕ → Bool
well_formed s = 1030 * records s == length s && (nat_le (records s) 65544 && good_to (table_of s) 65544 (records s))

pub record WellFormed (s : List ℕ) : Type 0 where
  pub whole : 1030 * records s ≡ length s
  pub few : records s ≤ 65544
  pub good : Good (table_of s) 65544 (records s)

-- one more than the record that has number n; 0 where none has, and where the bytes are not well-formed
unfoldable pub slot_in : List ℕ → ℕ → ℕ
slot_in s n = cond (well_formed s) (slot_to (table_of s) n (records s)) 0

-- the record that has number n, if one has
abbrev pub record_in : List ℕ → ℕ → Option ℕ
record_in s n = record_of (slot_in s n)

unfoldable pub used_in : List ℕ → ℕ
used_in s = cond (well_formed s) (used_to (table_of s) (records s)) 0

unfoldable pub left_in : List ℕ → ℕ
left_in s = cond (well_formed s) (records s - used_in s) 0

unfoldable pub limit_in : List ℕ → ℕ
limit_in s = cond (well_formed s) 65544 0

-- an index of well-formed bytes, and how many of their records are used
pub record Indexed (s : List ℕ) (index : List (Option ℕ)) (used : ℕ) : Type 0 where
  pub formed : well_formed s ≡ true
  pub sized : length index ≡ limit_in s
  pub listed : (n : ℕ) → n < limit_in s → slice_index_or index n None ≡ record_in s n
  pub counted : used ≡ used_in s

abbrev pub held_in : List ℕ → ℕ → Bool
held_in s n = not (slot_in s n == 0)

-- the block of a slot: that of its record, or zeros
unfoldable pub block_of : List ℕ → ℕ → List ℕ
block_of s zero = replicate 1024 0
block_of s (suc k) = block_at s k

abbrev pub block_in : List ℕ → ℕ → List ℕ
block_in s n = block_of s (slot_in s n)

abbrev pub meaning_of : List ℕ → Meaning
meaning_of s = record { limit = limit_in s; held = held_in s; left = left_in s; block = block_in s; backing = block_in s; in_order = true; layer = Bottom; spent = fault NoClaim Bottom }
