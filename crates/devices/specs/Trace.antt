-- Which calls were made, in which order, until the first refusal.
use Rattle.std.specs.Prelude.{◌≡◌, ◌⊎◌, List, [], ◌∷◌, Ok, Err, Result}
use Rattle.devices.specs.Meaning.{Meaning}
use Rattle.devices.specs.Step.{Call, Step}
use Rattle.faults.specs.declared.Fault.{Fault}

-- A device's own account of a call: its states before and after, the call and the answer. Code over any device can get
-- one in no other way than by making the call.
abbrev pub Account : Type 0 → Type 1
Account S = S → Call → Result Unit Fault → S → Type 0

-- what one call is to its caller: the device's account of it, and the law
abbrev pub Did : {S : Type 0} → Account S → (S → Meaning) → Account S
Did steps meaning d c r e = steps d c r e × Step (meaning d) c r (meaning e)

-- from d to e these calls are made, in this order, until the first refusal, and that refusal is the answer r;
-- where none is refused, the answer is own
abbrev pub Trace : {S X : Type 0} → Account S → S → List Call → Result X Fault → Result X Fault → S → Type 0
Trace did d [] own r e = (r ≡ own) × (e ≡ d)
Trace {S} did d (c ∷ cs) own (Ok x) e = (m : S) × did d c (Ok tt) m × Trace did m cs own (Ok x) e
Trace {S} did d (c ∷ cs) own (Err f) e = did d c (Err f) e ⊎ ((m : S) × did d c (Ok tt) m × Trace did m cs own (Err f) e)
