-- A quota: so many more numbers may be claimed, and no more than the device below allows.
use Rattle.std.specs.Prelude.{◌≡◌, ℕ, ◌-◌, min, cond, List, [], ◌∷◌, length, Ok, Err, Result, ◌==◌, nat_le, nat_lt}
use Rattle.devices.specs.Meaning.{Meaning}
use Rattle.devices.specs.Step.{Call, claim, fault, flush, read, write}
use Rattle.devices.specs.Trace.{Account, Trace}
use Rattle.faults.specs.declared.Fault.{Fault}
use Rattle.faults.specs.declared.Layer.TheVariants.{Quota}
use Rattle.faults.specs.declared.Refusal.TheVariants.{NoClaim, NotABlock, NotHeld, PastLimit}

-- what a quota with this remainder shows of the device below it
abbrev pub rationed : ℕ → Meaning → Meaning
rationed remainder d = record {
  limit = d.limit;
  held = d.held;
  left = min remainder d.left;
  block = d.block;
  backing = d.backing;
  in_order = d.in_order;
  layer = Quota;
  spent = λ n. cond (nat_le remainder d.left) (fault NoClaim Quota n) (d.spent n);
}

-- what a call asks of the device below
abbrev pub asked : ℕ → Meaning → Call → List Call
asked remainder d (claim n) = cond (nat_lt n d.limit) (cond (d.held n) (claim n ∷ []) (cond (remainder == 0) [] (claim n ∷ []))) []
asked remainder d (read n size) = cond (size == 1024) (cond (nat_lt n d.limit) (read n size ∷ []) []) []
asked remainder d (write n bytes) =
    cond (length bytes == 1024) (cond (nat_lt n d.limit) (cond (d.held n) (write n bytes ∷ []) []) []) []
asked remainder d flush = flush ∷ []

-- what it answers where nothing below refuses
abbrev pub answered : ℕ → Meaning → Call → Result Unit Fault
answered remainder d (claim n) =
    cond (nat_lt n d.limit) (cond (d.held n) (Ok tt) (cond (remainder == 0) (Err (fault NoClaim Quota n)) (Ok tt))) (Err (fault PastLimit Quota n))
answered remainder d (read n size) = cond (size == 1024) (cond (nat_lt n d.limit) (Ok tt) (Err (fault PastLimit Quota n))) (Err (fault NotABlock Quota 0))
answered remainder d (write n bytes) =
    cond
    (length bytes == 1024)
    (cond (nat_lt n d.limit) (cond (d.held n) (Ok tt) (Err (fault NotHeld Quota n))) (Err (fault PastLimit Quota n)))
    (Err (fault NotABlock Quota 0))
answered remainder d flush = Ok tt

-- what remains after it: an accepted claim of a number not yet held takes one off
abbrev pub remains : ℕ → Meaning → Call → Result Unit Fault → ℕ
remains remainder d (claim n) (Ok _) = cond (d.held n) remainder (remainder - 1)
remains remainder d (claim n) (Err _) = remainder
remains remainder d (read n size) r = remainder
remains remainder d (write n bytes) r = remainder
remains remainder d flush r = remainder

-- a quota's account of a call: what it asked below, what it answered, and what remains
abbrev pub Rationed : {S : Type 0} → Account S → Meaning → S → ℕ → Call → Result Unit Fault → S → ℕ → Type 0
Rationed did d s remainder c r t left = Trace did s (asked remainder d c) (answered remainder d c) r t × (left ≡ remains remainder d c r)
