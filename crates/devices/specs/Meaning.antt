-- What a page device is to its user. A block is 1,024 bytes; blocks are told apart by their numbers.
use Rattle.std.specs.Prelude.{◌≡◌, ℕ, ◌<◌, ◌≤◌, Bool, true, false, cond, List, length, replicate, ◌==◌}
use Rattle.faults.specs.declared.Fault.{Fault}
use Rattle.faults.specs.declared.Layer.{Layer}
use Rattle.faults.specs.declared.Refusal.TheVariants.{NoClaim}

pub record Meaning : Type 0 where
  -- the numbers below the limit have a block
  pub limit : ℕ
  -- a held number may be written
  pub held : ℕ → Bool
  -- how many more numbers may be claimed
  pub left : ℕ
  -- the block of a number
  pub block : ℕ → List ℕ
  -- its backing block: what the device at the bottom of the stack has for it
  pub backing : ℕ → List ℕ
  -- a device that is not in order may fail
  pub in_order : Bool
  -- the layer that its own refusals name
  pub layer : Layer
  -- how a claim of a number is refused when no claim is left; the refusal may come from any depth of the stack
  pub spent : ℕ → Fault

-- f with another value at n
abbrev pub put : {X : Type 0} → (ℕ → X) → ℕ → X → ℕ → X
put f n v k = cond (k == n) v (f k)

-- what holds of every device: a bounded limit, held numbers below it, whole blocks, and one refusal for want of a claim
pub record Sound (d : Meaning) : Type 0 where
  pub bounded : d.limit ≤ 65544
  pub inside : (n : ℕ) → d.held n ≡ true → n < d.limit
  pub whole : (n : ℕ) → n < d.limit → length (d.block n) ≡ 1024
  pub spent : (n : ℕ) → (d.spent n).refusal ≡ NoClaim

-- the block of a number that is not held is zeros; apart from the rest, since not every device will keep to it
abbrev pub Zeroed : Meaning → Type 0
Zeroed d = (n : ℕ) → n < d.limit → d.held n ≡ false → d.block n ≡ replicate 1024 0
