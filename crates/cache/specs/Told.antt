-- A cache's account of a call: the calls that it made below, in order, up to the first refusal, and its frames afterwards.
use Rattle.std.specs.Prelude.{◌≡◌, List, Ok, Result}
use Rattle.cache.specs.After.{Drained, after_claim, after_write}
use Rattle.cache.specs.Calls.{claim_calls, flush_calls, own_claim, own_read, own_write, read_calls, write_calls}
use Rattle.cache.specs.declared.frames.Frame.{Frame}
use Rattle.devices.specs.Meaning.{Meaning}
use Rattle.devices.specs.Step.{Call, claim, read, write, flush}
use Rattle.devices.specs.Trace.{Account, Trace}
use Rattle.faults.specs.declared.Fault.{Fault}

-- with the frames fs over the device d, the call has the answer r, and leaves the frames gs over the device e
abbrev pub Told : {S : Type 0} → Account S → (S → Meaning) → List Frame → S → Call → Result Unit Fault → List Frame → S → Type 0
Told did M fs d (claim n) r gs e =
    Trace did d (claim_calls (M d) n) (own_claim (M d) n) r e × (gs ≡ after_claim fs (M d) n r)
Told did M fs d (read n size) r gs e =
    Trace did d (read_calls fs (M d) n size) (own_read (M d) n size) r e × (gs ≡ fs)
Told did M fs d (write n bytes) r gs e =
    Trace did d (write_calls fs (M d) n bytes) (own_write (M d) n bytes) r e × (gs ≡ after_write fs n bytes r)
Told did M fs d flush r gs e =
    Trace {X = Unit} did d (flush_calls fs (M d)) (Ok tt) r e × Drained did M fs d r gs e
