-- What a call does to the bytes.
use Rattle.std.specs.Prelude.{◌≡◌, ℕ, zero, suc, ◌+◌, ◌*◌, ◌<◌, true, false, cond, List, Ok, Err, Result}
use Rattle.devices.specs.Step.{Call, claim, read, write, flush}
use Rattle.faults.specs.declared.Fault.{Fault}
use Rattle.devices.specs.Bytes.{put}
use Rattle.slotted.specs.Image.{held_in, slot_in, used_in}
use Rattle.slotted.specs.Records.{fresh, free_at, records, used_at}

-- record k is the first free one
pub record FirstFree (s : List ℕ) (k : ℕ) : Type 0 where
  pub inside : k < records s
  pub before : (j : ℕ) → j < k → used_at s j ≡ true
  pub here : free_at s k ≡ true

-- the bytes after a claim: the first free record is used up, unless the number is held
abbrev pub claimed : List ℕ → ℕ → List ℕ
claimed s n = cond (held_in s n) s (put s (1030 * used_in s) (fresh n))

-- the bytes after a write to a slot
unfoldable pub written : List ℕ → ℕ → List ℕ → List ℕ
written s zero bs = s
written s (suc k) bs = put s (1030 * k + 6) bs

abbrev pub after : List ℕ → Call → Result Unit Fault → List ℕ
after s (claim n) (Ok _) = claimed s n
after s (claim n) (Err _) = s
after s (read n size) r = s
after s (write n bs) (Ok _) = written s (slot_in s n) bs
after s (write n bs) (Err _) = s
after s flush r = s

-- which record a claim takes
abbrev pub Taken : List ℕ → Call → Result Unit Fault → Type 0
Taken s (claim n) (Ok _) = held_in s n ≡ false → FirstFree s (used_in s)
Taken s (claim n) (Err _) = Unit {0}
Taken s (read n size) r = Unit {0}
Taken s (write n bs) r = Unit {0}
Taken s flush r = Unit {0}

abbrev pub Bytewise : List ℕ → Call → Result Unit Fault → List ℕ → Type 0
Bytewise s c r t = (t ≡ after s c r) × Taken s c r
