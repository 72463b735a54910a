-- The law of a device: what a call may answer, and what it leaves.
use Rattle.std.specs.Prelude.{◌≡◌, ℕ, ◌-◌, ◌<◌, ◌≤◌, true, false, List, length, Ok, Err, Result, ◌≢◌}
use Rattle.devices.specs.Meaning.{Meaning, put}
use Rattle.faults.specs.declared.Fault.{Fault}
use Rattle.faults.specs.declared.Layer.{Layer}
use Rattle.faults.specs.declared.Layer.TheVariants.{Bottom}
use Rattle.faults.specs.declared.Refusal.{Refusal}
use Rattle.faults.specs.declared.Refusal.TheVariants.{DeviceFailed, NotABlock, NotHeld, PastLimit}

-- a call: a claim of a number, a read of it into a buffer of some length, a write of bytes to it, a flush
pub data Call : Type 0 where
  claim : ℕ → Call
  read : ℕ → ℕ → Call
  write : ℕ → List ℕ → Call
  flush : Call

abbrev pub fault : Refusal → Layer → ℕ → Fault
fault r l n = record { refusal = r; layer = l; block = n }

-- what no call changes; and out of order is for good
pub record Stays (d e : Meaning) : Type 0 where
  pub limit : e.limit ≡ d.limit
  pub layer : e.layer ≡ d.layer
  pub spent : e.spent ≡ d.spent
  pub for_good : d.in_order ≡ false → e.in_order ≡ false

-- nothing is changed but backing blocks and the order
pub record Kept (d e : Meaning) : Type 0 where
  pub stays : Stays d e
  pub held : e.held ≡ d.held
  pub left : e.left ≡ d.left
  pub block : e.block ≡ d.block

-- refused 12: by the device at the bottom, and only by one that is out of order after the call.
-- Which block it names is said by the device's own account of the call.
pub record Failed (f : Fault) (e : Meaning) : Type 0 where
  pub refusal : f.refusal ≡ DeviceFailed
  pub layer : f.layer ≡ Bottom
  pub out : e.in_order ≡ false

-- the refusals of each call, in their order, each exactly under its condition
pub record NotClaimed (d : Meaning) (n : ℕ) (f : Fault) (e : Meaning) : Type 0 where
  pub range : d.limit ≤ n → f ≡ fault PastLimit d.layer n
  pub spent : n < d.limit → d.held n ≡ false → d.left ≡ 0 → f ≡ d.spent n
  pub old : n < d.limit → d.held n ≡ true → Failed f e
  pub new : n < d.limit → d.held n ≡ false → 0 < d.left → Failed f e

pub record NotRead (d : Meaning) (n size : ℕ) (f : Fault) (e : Meaning) : Type 0 where
  pub buffer : (size ≢ 1024) → f ≡ fault NotABlock d.layer 0
  pub range : size ≡ 1024 → d.limit ≤ n → f ≡ fault PastLimit d.layer n
  pub failed : size ≡ 1024 → n < d.limit → Failed f e

pub record NotWritten (d : Meaning) (n size : ℕ) (f : Fault) (e : Meaning) : Type 0 where
  pub buffer : (size ≢ 1024) → f ≡ fault NotABlock d.layer 0
  pub range : size ≡ 1024 → d.limit ≤ n → f ≡ fault PastLimit d.layer n
  pub unheld : size ≡ 1024 → n < d.limit → d.held n ≡ false → f ≡ fault NotHeld d.layer n
  pub failed : size ≡ 1024 → n < d.limit → d.held n ≡ true → Failed f e

-- what each accepted call does
pub record Claimed (d : Meaning) (n : ℕ) (e : Meaning) : Type 0 where
  pub stays : Stays d e
  pub range : n < d.limit
  pub old_held : d.held n ≡ true → e.held ≡ d.held
  pub old_left : d.held n ≡ true → e.left ≡ d.left
  pub new_room : d.held n ≡ false → 0 < d.left
  pub new_held : d.held n ≡ false → e.held ≡ put d.held n true
  pub new_left : d.held n ≡ false → e.left ≡ d.left - 1
  pub block : e.block ≡ d.block
  pub backing : e.backing ≡ d.backing

pub record WasRead (d : Meaning) (n size : ℕ) (e : Meaning) : Type 0 where
  pub kept : Kept d e
  pub backing : e.backing ≡ d.backing
  pub buffer : size ≡ 1024
  pub range : n < d.limit

-- which backing blocks a write changes is left open: the device at the bottom decides
pub record Wrote (d : Meaning) (n : ℕ) (bytes : List ℕ) (e : Meaning) : Type 0 where
  pub stays : Stays d e
  pub buffer : length bytes ≡ 1024
  pub range : n < d.limit
  pub was_held : d.held n ≡ true
  pub held : e.held ≡ d.held
  pub left : e.left ≡ d.left
  pub block : e.block ≡ put d.block n bytes

pub record Flushed (d e : Meaning) : Type 0 where
  pub kept : Kept d e
  pub backing : e.backing ≡ e.block

-- the call at d has the answer and leaves e. Open are the backing blocks after a write and after a refused flush,
-- and when a device that may be out of order fails.
abbrev pub Step : Meaning → Call → Result Unit Fault → Meaning → Type 0
Step d (claim n) (Ok _) e = Claimed d n e
Step d (claim n) (Err f) e = Kept d e × (e.backing ≡ d.backing) × NotClaimed d n f e
Step d (read n size) (Ok _) e = WasRead d n size e
Step d (read n size) (Err f) e = Kept d e × (e.backing ≡ d.backing) × NotRead d n size f e
Step d (write n bytes) (Ok _) e = Wrote d n bytes e
Step d (write n bytes) (Err f) e = Kept d e × NotWritten d n (length bytes) f e
Step d flush (Ok _) e = Flushed d e
Step d flush (Err f) e = Kept d e × Failed f e

-- what a read leaves in the buffer: the block, or at a refusal what was there
abbrev pub Filled : Meaning → ℕ → Result Unit Fault → List ℕ → List ℕ → Type 0
Filled d n (Ok _) old new = new ≡ d.block n
Filled d n (Err _) old new = new ≡ old
