-- Blocks of bytes, and what a write over one leaves.
use Rattle.std.proofs.Common.{◌≡◌, ℕ, ◌+◌, ◌-◌, ◌*◌, ◌/◌, ◌<◌, ◌≤◌, min, Bool, cond, ltb, List, length, take, drop, Ok, sym, refl, ap, ◌∙◌, ⊎_elim, arith}
use mathlib.Core.Path.{fun_ext}
use Rattle.devices.proofs.Puts.{put_above, put_below, put_length, put_same}
use Rattle.devices.specs.Bytes.{put}
use Rattle.devices.specs.Meaning.{Meaning, Sound, put as change}
use Rattle.devices.specs.Step.{Kept, Wrote, write}
use Rattle.flat.specs.Blocks.{answered, block_at, blocks, flat}
use Rattle.std.proofs.lemmas.List.{length-drop, length-take-le}
use Rattle.std.proofs.lemmas.Slice.{between_is}
use Rattle.std.proofs.lemmas.Bool.{cases_order, eq-eqb, lt-ltb, ltb-true, ne_eqb}

pub blocks_at_most : (s : List ℕ) → blocks s ≤ 65544
unfolding blocks
blocks_at_most s = omega arith

pub block_inside : (s : List ℕ) (n : ℕ) → n < blocks s → 1024 * n + 1024 ≤ length s
unfolding blocks
block_inside s n h = omega arith

pub block_length : (s : List ℕ) (n : ℕ) → n < blocks s → length (block_at s n) ≡ 1024
block_length s n h = length-take-le 1024 (drop (1024 * n) s) (omega (arith, length-drop (1024 * n) s, block_inside s n h))

pub sound : (s : List ℕ) → Sound (flat s)
sound s = record {
  bounded = blocks_at_most s;
  inside = λ n h. ltb-true n (blocks s) h;
  whole = block_length s;
  spent = λ n. refl;
}

-- a block as the code cuts it
block_between : (s : List ℕ) (k : ℕ) → block_at s k ≡ drop (1024 * k) (take (1024 * k + 1024) s)
block_between s k =
    let w : 1024 * k + 1024 - 1024 * k ≡ 1024 = omega arith in
    ap (λ (m : ℕ). take m (drop (1024 * k) s)) (sym w) ∙ between_is s (1024 * k) (1024 * k + 1024)

-- after a write over block n
module _ (s bs : List ℕ) (n : ℕ) (lt : n < blocks s) (full : length bs ≡ 1024) where
  abbrev new : List ℕ
  new = put s (1024 * n) bs

  room : 1024 * n + length bs ≤ length s
  room = omega (arith, block_inside s n lt)

  pub same_blocks : blocks new ≡ blocks s
  unfolding blocks
  same_blocks = ap (λ (l : ℕ). min (l / 1024) 65544) (put_length s bs (1024 * n) room)

  block_here : block_at new n ≡ bs
  block_here = ap (λ (m : ℕ). take m (drop (1024 * n) new)) (sym full) ∙ put_same s bs (1024 * n) room

  block_below : (k : ℕ) → k < n → block_at new k ≡ block_at s k
  block_below k h =
      block_between new k ∙ ap (drop (1024 * k)) (put_below s bs (1024 * n) room (1024 * k + 1024) (omega arith)) ∙ sym (block_between s k)

  block_above : (k : ℕ) → n < k → block_at new k ≡ block_at s k
  block_above k h = ap (take 1024) (put_above s bs (1024 * n) room (1024 * k) (omega arith))

  pub new_block : block_at new ≡ change (block_at s) n bs
  new_block =
      fun_ext (λ k.
      ⊎_elim
      (λ (q : k ≡ n). ap (block_at new) q ∙ block_here ∙ ap (λ (b : Bool). cond b bs (block_at s k)) (sym (eq-eqb k n q)))
      (⊎_elim
      (λ (h : k < n). block_below k h ∙ ap (λ (b : Bool). cond b bs (block_at s k)) (sym (ne_eqb k n (λ e. omega arith))))
      (λ (h : n < k). block_above k h ∙ ap (λ (b : Bool). cond b bs (block_at s k)) (sym (ne_eqb k n (λ e. omega arith)))))
      (cases_order k n))

  pub wrote : Wrote (flat s) n bs (flat new)
  wrote = record {
    stays = record { limit = same_blocks; layer = refl; spent = refl; for_good = λ e. e };
    buffer = full;
    range = lt;
    was_held = lt-ltb n (blocks s) lt;
    held = ap {B = ℕ → Bool} (λ (l : ℕ). λ (k : ℕ). ltb k l) same_blocks;
    left = refl;
    block = new_block;
  }

-- the answer of a write that nothing refuses
pub write_accepted : (s from : List ℕ) (n : ℕ) → length from ≡ 1024 → n < blocks s → Ok tt ≡ answered s (write n from)
write_accepted s from n e lt = rw (eq-eqb (length from) 1024 e, lt-ltb n (blocks s) lt)

pub kept : (d : Meaning) → Kept d d
kept d = record { stays = record { limit = refl; layer = refl; spent = refl; for_good = λ e. e }; held = refl; left = refl; block = refl }
