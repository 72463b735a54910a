-- What a call of a database asks of its device.
use Rattle.std.specs.Prelude.{List, Result}
use Rattle.contents.specs.Blocks.{Blocks, blocks_of}
use Rattle.devices.specs.Meaning.{Meaning}
use Rattle.devices.specs.Step.{Call}
use Rattle.devices.specs.Trace.{Account, Did, Trace}
use Rattle.faults.specs.declared.Fault.{Fault}

-- From state d to state e of the device, whose blocks at d decide it all, these calls are made in this order until one is
-- refused, and that refusal is the answer r; where none is refused, the answer is own.
abbrev pub Made : {S X : Type 0} → Account S → (S → Meaning) → S → (Blocks → List Call) → (Blocks → Result X Fault) → Result X Fault → S → Type 0
Made steps meaning d calls own r e = Trace (Did steps meaning) d (calls (blocks_of (meaning d))) (own (blocks_of (meaning d))) r e
