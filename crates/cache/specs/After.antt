-- The frames after each call.
use Rattle.std.specs.Prelude.{◌≡◌, ℕ, ◌-◌, ◌<◌, cond, ◌⊎◌, List, [], ◌∷◌, ◌++◌, length, drop, IfOk, Some, None, Ok, Err, Option, Result, ◌==◌, slice_set}
use Rattle.cache.specs.Calls.{leaves, room_calls}
use Rattle.cache.specs.InUse.{newest}
use Rattle.cache.specs.Shown.{Fails, cached}
use Rattle.cache.specs.Whole.{at}
use Rattle.cache.specs.declared.frames.Frame.{Frame}
use Rattle.devices.specs.Meaning.{Meaning}
use Rattle.devices.specs.Step.{Failed, Kept, flush}
use Rattle.devices.specs.Trace.{Account, Trace}
use Rattle.faults.specs.declared.Fault.{Fault}

-- the oldest frame has left, unless that was refused
abbrev pub popped : List Frame → Result Unit Fault → List Frame
popped fs (Ok _) = drop 1 fs
popped fs (Err _) = fs

-- the oldest of eight has left, unless that was refused
abbrev pub roomed : List Frame → Result Unit Fault → List Frame
roomed fs (Ok _) = drop (length fs - 7) fs
roomed fs (Err _) = fs

-- a write overwrites the frame at the place, where there is one: the others stay, and each is as old as before.
-- Otherwise it takes one more frame, for which the oldest of eight has left
abbrev pub stored : List Frame → Option ℕ → ℕ → List ℕ → List Frame
stored fs (Some i) n bytes = slice_set fs i (record { number = n; block = bytes })
stored fs None n bytes = drop (length fs - 7) fs ++ record { number = n; block = bytes } ∷ []

-- a refused write changes no frame
abbrev pub after_write : List Frame → ℕ → List ℕ → Result Unit Fault → List Frame
after_write fs n bytes (Ok _) = stored fs (newest fs n) n bytes
after_write fs n bytes (Err _) = fs

-- the frames that are not numbered n
abbrev pub without : List Frame → ℕ → List Frame
without [] n = []
without (f ∷ fs) n = cond (n == f.number) (without fs n) (f ∷ without fs n)

-- a claim of a number that was not held frees its frames
abbrev pub after_claim : List Frame → Meaning → ℕ → Result Unit Fault → List Frame
after_claim fs d n (Ok _) = cond (d.held n) fs (without fs n)
after_claim fs d n (Err _) = fs

-- the oldest frame leaves
pub record Evicted {S : Type 0} (did : Account S) (M : S → Meaning) (fs : List Frame) (d : S) (r : Result Unit Fault) (gs : List Frame) (e : S) : Type 0 where
  pub below : Trace did d (leaves (at fs 0) (M d)) (Ok tt) r e
  pub failed : Fails r (M e)
  pub frames : gs ≡ popped fs r

-- a frame is free, for which the oldest of eight leaves; the cache shows the same
pub record MadeRoom {S : Type 0} (did : Account S) (M : S → Meaning) (fs : List Frame) (d : S) (r : Result Unit Fault) (gs : List Frame) (e : S) : Type 0 where
  pub below : Trace did d (room_calls fs (M d)) (Ok tt) r e
  pub failed : Fails r (M e)
  pub frames : gs ≡ roomed fs r
  pub room : IfOk r (λ _. length gs < 8)
  pub same : Kept (cached fs (M d)) (cached gs (M e))

-- a flush frees each frame once it has left, the oldest first, and then flushes below; a refusal leaves the frame that
-- was refused, and the younger ones
abbrev pub Drained : {S : Type 0} → Account S → (S → Meaning) → List Frame → S → Result Unit Fault → List Frame → S → Type 0
Drained did M [] d r rest e = did d flush r e × (rest ≡ [])
Drained {S} did M (f ∷ fs) d (Ok x) rest e =
    (m : S) × Trace {X = Unit} did d (leaves f (M d)) (Ok tt) (Ok tt) m × Drained did M fs m (Ok x) rest e
Drained {S} did M (f ∷ fs) d (Err x) rest e =
    (Trace {X = Unit} did d (leaves f (M d)) (Ok tt) (Err x) e × Failed x (M e) × (rest ≡ f ∷ fs))
    ⊎ ((m : S) × Trace {X = Unit} did d (leaves f (M d)) (Ok tt) (Ok tt) m × Drained did M fs m (Err x) rest e)
