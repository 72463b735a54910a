-- What each call answers by itself, and which calls it makes below.
use Rattle.std.specs.Prelude.{ℕ, cond, List, [], ◌∷◌, ◌++◌, length, Some, None, Ok, Err, Option, Result, ◌==◌, nat_lt}
use Rattle.cache.specs.InUse.{newest}
use Rattle.cache.specs.Whole.{at}
use Rattle.cache.specs.declared.frames.Frame.{Frame}
use Rattle.devices.specs.Meaning.{Meaning}
use Rattle.devices.specs.Step.{Call, claim, read, write, flush, fault}
use Rattle.faults.specs.declared.Fault.{Fault}
use Rattle.faults.specs.declared.Layer.TheVariants.{Cache}
use Rattle.faults.specs.declared.Refusal.TheVariants.{NotABlock, NotHeld, PastLimit}

-- a call that the cache refuses by itself makes no call below
abbrev pub accepted : Result Unit Fault → List Call → List Call
accepted (Ok _) calls = calls
accepted (Err _) calls = []

-- a frame leaves: it is written below, or dropped where its number is not held
abbrev pub leaves : Frame → Meaning → List Call
leaves f d = cond (d.held f.number) (write f.number f.block ∷ []) []

-- a frame becomes free: the oldest of eight leaves
abbrev pub room_calls : List Frame → Meaning → List Call
room_calls fs d = cond (length fs == 8) (leaves (at fs 0) d) []

abbrev pub own_claim : Meaning → ℕ → Result Unit Fault
own_claim d n = cond (nat_lt n d.limit) (Ok tt) (Err (fault PastLimit Cache n))

abbrev pub claim_calls : Meaning → ℕ → List Call
claim_calls d n = accepted (own_claim d n) (claim n ∷ [])

abbrev pub own_read : Meaning → ℕ → ℕ → Result Unit Fault
own_read d n size =
    cond (size == 1024) (cond (nat_lt n d.limit) (Ok tt) (Err (fault PastLimit Cache n))) (Err (fault NotABlock Cache 0))

-- where the frame is that answers a read: the newest, if the number is held
abbrev pub visible : List Frame → Meaning → ℕ → Option ℕ
visible fs d n = cond (d.held n) (newest fs n) None

-- a read that a frame answers makes no call
abbrev pub fetches : Option ℕ → ℕ → ℕ → List Call
fetches (Some i) n size = []
fetches None n size = read n size ∷ []

abbrev pub read_calls : List Frame → Meaning → ℕ → ℕ → List Call
read_calls fs d n size = accepted (own_read d n size) (fetches (visible fs d n) n size)

abbrev pub own_write : Meaning → ℕ → List ℕ → Result Unit Fault
own_write d n bytes =
    cond (length bytes == 1024)
    (cond (nat_lt n d.limit) (cond (d.held n) (Ok tt) (Err (fault NotHeld Cache n))) (Err (fault PastLimit Cache n)))
    (Err (fault NotABlock Cache 0))

-- a write to a number that has a frame makes no call, and another needs a free frame
abbrev pub stores : List Frame → Meaning → Option ℕ → List Call
stores fs d (Some i) = []
stores fs d None = room_calls fs d

abbrev pub write_calls : List Frame → Meaning → ℕ → List ℕ → List Call
write_calls fs d n bytes = accepted (own_write d n bytes) (stores fs d (newest fs n))

-- every frame leaves, oldest first, and then the device below is flushed
abbrev pub flush_calls : List Frame → Meaning → List Call
flush_calls [] d = flush ∷ []
flush_calls (f ∷ fs) d = leaves f d ++ flush_calls fs d
