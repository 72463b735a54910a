-- What a call that passed the checks of its number and its buffer knows.
use Rattle.std.proofs.Common.{◌≡◌, ℕ, ◌<◌, Ok, arith}
use Rattle.devices.specs.Checked.{buffer_checked, number_checked}
use Rattle.faults.specs.declared.Layer.{Layer}
use Rattle.std.proofs.lemmas.Grind.{common_steps}

pub number_passed : (layer : Layer) (limit n : ℕ) → number_checked layer limit n ≡ Ok tt → n < limit
number_passed layer limit n h = grind (arith, common_steps)

pub buffer_passed : (layer : Layer) (limit n size : ℕ) → buffer_checked layer limit n size ≡ Ok tt → (size ≡ 1024) × (n < limit)
buffer_passed layer limit n size h = grind (arith, common_steps)
