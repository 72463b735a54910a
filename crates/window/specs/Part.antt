-- A window: a part of a device, from a base on. Number n of the window stands for base + n below.
use Rattle.std.specs.Prelude.{◌≡◌, ℕ, ◌+◌, ◌-◌, min, Bool, false, cond, List, [], ◌∷◌, length, Ok, Err, Result, ◌==◌, nat_lt}
use Rattle.devices.specs.Meaning.{Meaning}
use Rattle.devices.specs.Step.{Call, claim, fault, flush, read, write}
use Rattle.devices.specs.Trace.{Account, Trace}
use Rattle.faults.specs.declared.Fault.{Fault}
use Rattle.faults.specs.declared.Layer.TheVariants.{Window}
use Rattle.faults.specs.declared.Refusal.TheVariants.{NotABlock, NotHeld, PastLimit}

-- the lesser of the window's length and what the device below has from the base on
abbrev pub reach : ℕ → ℕ → Meaning → ℕ
reach base long d = min long (d.limit - base)

abbrev pub held_in : ℕ → ℕ → Meaning → ℕ → Bool
held_in base long d n = cond (nat_lt n (reach base long d)) (d.held (base + n)) false

-- what a window shows of the device below it
abbrev pub seen : ℕ → ℕ → Meaning → Meaning
seen base long d = record {
  limit = reach base long d;
  held = held_in base long d;
  left = d.left;
  block = λ n. d.block (base + n);
  backing = λ n. d.backing (base + n);
  in_order = d.in_order;
  layer = Window;
  spent = λ n. d.spent (base + n);
}

-- what a call asks of the device below
abbrev pub asked : ℕ → ℕ → Meaning → Call → List Call
asked base long d (claim n) = cond (nat_lt n (reach base long d)) (claim (base + n) ∷ []) []
asked base long d (read n size) = cond (size == 1024) (cond (nat_lt n (reach base long d)) (read (base + n) size ∷ []) []) []
asked base long d (write n bytes) =
    cond (length bytes == 1024) (cond (nat_lt n (reach base long d)) (cond (held_in base long d n) (write (base + n) bytes ∷ []) []) []) []
asked base long d flush = flush ∷ []

-- what it answers where nothing below refuses
abbrev pub answered : ℕ → ℕ → Meaning → Call → Result Unit Fault
answered base long d (claim n) = cond (nat_lt n (reach base long d)) (Ok tt) (Err (fault PastLimit Window n))
answered base long d (read n size) =
    cond (size == 1024) (cond (nat_lt n (reach base long d)) (Ok tt) (Err (fault PastLimit Window n))) (Err (fault NotABlock Window 0))
answered base long d (write n bytes) =
    cond
    (length bytes == 1024)
    (cond (nat_lt n (reach base long d)) (cond (held_in base long d n) (Ok tt) (Err (fault NotHeld Window n))) (Err (fault PastLimit Window n)))
    (Err (fault NotABlock Window 0))
answered base long d flush = Ok tt

-- a window's account of a call: what it asked below and what it answered; base and length stay
abbrev pub Seen : {S : Type 0} → Account S → Meaning → S → ℕ → ℕ → Call → Result Unit Fault → S → ℕ → ℕ → Type 0
Seen did d s base long c r t base' long' = Trace did s (asked base long d c) (answered base long d c) r t × (base' ≡ base) × (long' ≡ long)
