-- Bytes as consecutive blocks.
use Rattle.std.specs.Prelude.{◌≡◌, ℕ, ◌*◌, ◌/◌, min, true, cond, List, length, take, drop, Ok, Err, Result, ◌==◌, nat_lt}
use Rattle.devices.specs.Bytes.{put}
use Rattle.devices.specs.Meaning.{Meaning}
use Rattle.devices.specs.Step.{Call, claim, fault, flush, read, write}
use Rattle.faults.specs.declared.Fault.{Fault}
use Rattle.faults.specs.declared.Layer.TheVariants.{Bottom}
use Rattle.faults.specs.declared.Refusal.TheVariants.{NoClaim, NotABlock, PastLimit}

-- how many blocks there are: the whole ones, at most 65,544
unfoldable pub blocks : List ℕ → ℕ
blocks bytes = min (length bytes / 1024) 65544

abbrev pub block_at : List ℕ → ℕ → List ℕ
block_at bytes n = take 1024 (drop (1024 * n) bytes)

-- what these bytes are as a device: every block is held, no claim is left, and nothing fails
abbrev pub flat : List ℕ → Meaning
flat bytes = record {
  limit = blocks bytes;
  held = λ n. nat_lt n (blocks bytes);
  left = 0;
  block = block_at bytes;
  backing = block_at bytes;
  in_order = true;
  layer = Bottom;
  spent = fault NoClaim Bottom;
}

-- what a call answers
abbrev pub answered : List ℕ → Call → Result Unit Fault
answered bytes (claim n) = cond (nat_lt n (blocks bytes)) (Ok tt) (Err (fault PastLimit Bottom n))
answered bytes (read n size) = cond (size == 1024) (cond (nat_lt n (blocks bytes)) (Ok tt) (Err (fault PastLimit Bottom n))) (Err (fault NotABlock Bottom 0))
answered bytes (write n from) =
    cond (length from == 1024) (cond (nat_lt n (blocks bytes)) (Ok tt) (Err (fault PastLimit Bottom n))) (Err (fault NotABlock Bottom 0))
answered bytes flush = Ok tt

-- the bytes after a call: only an accepted write changes any, those of its block
abbrev pub after : List ℕ → Call → Result Unit Fault → List ℕ
after bytes (claim n) r = bytes
after bytes (read n size) r = bytes
after bytes (write n from) (Ok _) = put bytes (1024 * n) from
after bytes (write n from) (Err _) = bytes
after bytes flush r = bytes

-- a flat device's account of a call
abbrev pub Went : List ℕ → Call → Result Unit Fault → List ℕ → Type 0
Went bytes c r bytes' = (r ≡ answered bytes c) × (bytes' ≡ after bytes c r)
