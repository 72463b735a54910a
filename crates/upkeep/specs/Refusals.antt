-- Which refusal a list of calls on a device meets first, where the device does not fail.
use Rattle.std.specs.Prelude.{◌≡◌, ◌⊎◌, ℕ, ◌-◌, true, cond, List, [], ◌∷◌, length, Some, None, Ok, Err, Option, Result, ◌==◌, nat_lt}
use Rattle.devices.specs.Meaning.{Meaning, put}
use Rattle.devices.specs.Step.{Call, Failed, claim, fault, flush, read, write}
use Rattle.faults.specs.declared.Fault.{Fault}
use Rattle.faults.specs.declared.Refusal.TheVariants.{NotABlock, NotHeld, PastLimit}

-- the number has to be below the limit
abbrev pub past : Meaning → ℕ → Option Fault → Option Fault
past d n rest = cond (nat_lt n d.limit) rest (Some (fault PastLimit d.layer n))

-- a device after it accepted a claim of a number that was not held
abbrev pub after_claim : Meaning → ℕ → Meaning
after_claim d n = record d { held = put d.held n true; left = d.left - 1 }

-- the first refusal of these calls, by the rules of a claim, a read, a write and a flush; none where all are accepted
abbrev pub first_refusal : Meaning → List Call → Option Fault
first_refusal d [] = None
first_refusal d (claim n ∷ cs) =
    past d n (cond (d.held n) (first_refusal d cs) (cond (d.left == 0) (Some (d.spent n)) (first_refusal (after_claim d n) cs)))
first_refusal d (read n size ∷ cs) = cond (size == 1024) (past d n (first_refusal d cs)) (Some (fault NotABlock d.layer 0))
first_refusal d (write n bytes ∷ cs) =
    cond (length bytes == 1024) (past d n (cond (d.held n) (first_refusal d cs) (Some (fault NotHeld d.layer n)))) (Some (fault NotABlock d.layer 0))
first_refusal d (flush ∷ cs) = first_refusal d cs

-- An answer is refused 12, by a device that is out of order afterwards; or it is the first refusal that the rules give, and
-- otherwise the answer that the call gives itself.
abbrev pub ByRule : {X : Type 0} → Meaning → List Call → Result X Fault → Result X Fault → Meaning → Type 0
ByRule d cs own (Ok x) e = (first_refusal d cs ≡ None) × (own ≡ Ok x)
ByRule d cs own (Err f) e = Failed f e ⊎ ((first_refusal d cs ≡ Some f) ⊎ ((first_refusal d cs ≡ None) × (own ≡ Err f)))
