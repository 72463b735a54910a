-- What a call is refused for before anything is asked of a device below.
use Rattle.std.specs.Prelude.{ℕ, cond, Ok, Err, Result, ◌==◌, nat_lt}
use Rattle.devices.specs.Step.{fault}
use Rattle.faults.specs.declared.Fault.{Fault}
use Rattle.faults.specs.declared.Layer.{Layer}
use Rattle.faults.specs.declared.Refusal.TheVariants.{NotABlock, PastLimit}

-- a number has to be below the limit
abbrev pub number_checked : Layer → ℕ → ℕ → Result Unit Fault
number_checked layer limit n = cond (nat_lt n limit) (Ok tt) (Err (fault PastLimit layer n))

-- a buffer has to be a block, and then the number below the limit
abbrev pub buffer_checked : Layer → ℕ → ℕ → ℕ → Result Unit Fault
buffer_checked layer limit n size = cond (size == 1024) (number_checked layer limit n) (Err (fault NotABlock layer 0))
