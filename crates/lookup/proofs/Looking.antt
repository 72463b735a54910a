-- Which bits a lookup still has to test, and what is known where it ends.
use Rattle.std.proofs.Common.{◌≡◌, ℕ, suc, ◌+◌, ◌-◌, ◌/◌, ◌%◌, ◌<◌, ◌≤◌, min, ltb, Bool, true, false, [], ◌∷◌, map, Ok, Err, Result, inl, inr, sym, ap, ◌∙◌, ⊎_elim, subst, arith}
use Rattle.contents.specs.Blocks.{Blocks, bits_in}
use Rattle.devices.specs.Meaning.{Meaning}
use Rattle.devices.specs.Step.{read}
use Rattle.devices.specs.Trace.{Account, Did, Trace}
use Rattle.faults.specs.declared.Fault.{Fault}
use Rattle.directory.proofs.Lookups.{ends_once, ends_there}
use Rattle.directory.specs.Tree.{bits_of, depth_of, node}
use Rattle.lookup.specs.Reads.{blocks_of_bits, lookup_calls, lookup_reads, reads, tested}
use Rattle.std.proofs.lemmas.Bool.{both_ways, cases_lt, cond-true, lt-ltb}
use Rattle.std.specs.List.{range_with_len}

-- a directory bit is that of its block
pub bit_is : (blocks : Blocks) (i : ℕ) → i < 32767 → bits_in blocks i ≡ bits_of (blocks (i / 8192)) (i % 8192)
unfolding bits_in
bit_is blocks i l = cond-true (ltb i 32767) (bits_of (blocks (i / 8192)) (i % 8192)) false (lt-ltb i 32767 l)

module _ (bits : ℕ → Bool) (h t : ℕ) (above : (s : ℕ) → s < t → bits (node h s) ≡ true) where
  -- while all bits so far are set, the lookup has not ended above
  pub not_above : t ≤ 15 → t ≤ depth_of bits h
  not_above l = ⊎_elim (λ (k : depth_of bits h < t). absurd (both_ways (bits (node h (depth_of bits h))) ((ends_there bits h).clear (omega arith)) (above (depth_of bits h) k))) (λ k. k) (cases_lt (depth_of bits h) t)

  -- the bit at depth t is tested next
  pub tested_next : t < 15 → tested bits h t ≡ node h t ∷ tested bits h (suc t)
  tested_next l =
      let more : min 15 (suc (depth_of bits h)) - t ≡ suc (min 15 (suc (depth_of bits h)) - suc t) = omega (arith, not_above (omega arith)) in
      ap (λ (k : ℕ). map (node h) (range_with_len t k)) more ∙ ap (λ (k : ℕ). node h t ∷ map (node h) (range_with_len k (min 15 (suc (depth_of bits h)) - suc t))) (one t)
    where
      one : (n : ℕ) → n + 1 ≡ suc n
      one n = omega arith

  -- where it is clear the lookup ends
  pub ended : t < 15 → bits (node h t) ≡ false → depth_of bits h ≡ t
  ended l clear = sym (ends_once bits h t (record { limit = omega arith; above = above; clear = λ _. clear }))

  pub tested_last : t < 15 → bits (node h t) ≡ false → tested bits h (suc t) ≡ []
  tested_last l clear =
      let none : min 15 (suc (depth_of bits h)) - suc t ≡ 0 = omega (arith, ended l clear) in
      ap (λ (k : ℕ). map (node h) (range_with_len (suc t) k)) none

  -- and at depth 15 there is no bit left to test
  pub tested_out : t ≡ 15 → tested bits h t ≡ []
  tested_out e =
      let none : min 15 (suc (depth_of bits h)) - t ≡ 0 = omega arith in
      ap (λ (k : ℕ). map (node h) (range_with_len t k)) none

-- the first read of a lookup
module _ {S X : Type 0} (steps : Account S) (M : S → Meaning) (blocks : Blocks) (h : ℕ) (own : Result X Fault) (size : ℕ) (whole : size ≡ 1024) where
  pub first_refused : (d e : S) (f : Fault) → Did steps M d (read 0 size) (Err f) e → Trace (Did steps M) d (lookup_calls blocks h) own (Err f) e
  unfolding lookup_reads
  first_refused d e f s = inl (subst (λ (n : ℕ). Did steps M d (read 0 n) (Err f) e) whole s)

  pub first_read : (d m : S) → Did steps M d (read 0 size) (Ok tt) m
      → (r : Result X Fault) (e : S) → Trace (Did steps M) m (reads (blocks_of_bits 0 (tested (bits_in blocks) h 0))) own r e → Trace (Did steps M) d (lookup_calls blocks h) own r e
  unfolding lookup_reads
  first_read d m s (Ok x) e t = (m, subst (λ (n : ℕ). Did steps M d (read 0 n) (Ok tt) m) whole s, t)
  first_read d m s (Err f) e t = inr (m, subst (λ (n : ℕ). Did steps M d (read 0 n) (Ok tt) m) whole s, t)
