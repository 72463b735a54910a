-- What a database holds: of a blank one nothing, exactly the pairs of the list, and the same after calls that write nothing.
use Rattle.std.proofs.Common.{◌≡◌, ℕ, zero, suc, ◌+◌, ◌/◌, ◌%◌, ◌^◌, Bool, false, eqb, ltb, List, [], map, get_or, replicate, Ok, Err, inl, refl, sym, ap, ◌∙◌, subst, arith}
use native.Mathlib.Nat.{zero-div}
use Rattle.contents.proofs.Held.{contents_bits, contents_pages, holds_once, look_found, look_held, pages_tidy}
use Rattle.contents.proofs.Joins.{differ_none}
use Rattle.contents.proofs.Tests.{pairs_good}
use Rattle.contents.specs.Blocks.{Blocks, bits_in, blocks_of, page_in}
use Rattle.contents.specs.Laws.{HeldIs}
use Rattle.contents.specs.Contents.{Contents, contents_of, held, home}
use Rattle.devices.specs.Meaning.{Meaning}
use Rattle.directory.specs.Tree.{bit, bits_of}
use Rattle.keys.proofs.Sames.{laws}
use Rattle.lookup.specs.Reads.{reads}
use Rattle.pages.proofs.Pages.{blank_good}
use Rattle.pages.specs.Page.{Good, Pair, look, pair_of, pairs, pairs_of}
use Rattle.splits.proofs.Sounds.{blank_sound}
use Rattle.splits.specs.Laws.{Sound}
use Rattle.std.proofs.lemmas.Bool.{cond_both}
use Rattle.std.specs.List.{range_with_len}
use Rattle.upkeep.proofs.Quiet.{Quiet, quiet_from, quiet_kept, quiet_reads, quiet_trace}
use Rattle.upkeep.proofs.Writes.{Sane}
use Rattle.upkeep.specs.Holding.{Holding, backing_of}
use Rattle.upkeep.specs.Laws.{BlankHolds, FlushKeeps, HoldsExactly, ReadsKeep}

-- calls that write nothing

pub holding_quiet : (pairs : List Pair) (d e : Meaning) → Holding pairs d → Quiet d e → Holding pairs e
holding_quiet pairs d e h q = record {
  device = q.lawful h.device;
  unclaimed = q.unclaimed h.unclaimed;
  sound = subst (λ (b : Blocks). Sound (contents_of b)) (sym q.blocks) h.sound;
  good = subst (λ (b : Blocks). (p : ℕ) → Good (page_in b p)) (sym q.blocks) h.good;
  held = subst (λ (b : Blocks). (key : List ℕ) → held (contents_of b) key ≡ look key pairs) (sym q.blocks) h.held;
  differ = h.differ;
}

-- a device that holds the same contents
pub holding_same : (pairs : List Pair) (d e : Meaning) → Holding pairs d → Sane e → contents_of (blocks_of e) ≡ contents_of (blocks_of d) → Holding pairs e
holding_same pairs d e h s same = record {
  device = s.device;
  unclaimed = s.unclaimed;
  sound = subst Sound (sym same) h.sound;
  good = s.good;
  held = λ key. ap (λ (c : Contents). held c key) same ∙ h.held key;
  differ = h.differ;
}

pub sane : (pairs : List Pair) (d : Meaning) → Holding pairs d → Sane d
sane pairs d h = record { device = h.device; unclaimed = h.unclaimed; good = h.good }

pub reads_keep : {X : Type 0} → ReadsKeep X
reads_keep pairs ns d e own r h t = holding_quiet pairs d e h (quiet_trace (reads ns) d e own r (quiet_reads ns) t)

pub flush_keeps : FlushKeeps
flush_keeps pairs d e (Ok u) h s =
    let now = holding_quiet pairs d e h (quiet_kept d e s.kept) in
    (now, λ _. holding_quiet pairs e (backing_of e) now (quiet_from e (backing_of e) refl s.backing refl (λ n k. k) (λ n k. inl k)))
flush_keeps pairs d e (Err f) h s =
    (holding_quiet pairs d e h (quiet_kept d e s.0), λ r. let z : ◌≡◌ {A = ℕ} 0 1 = cc in absurd (omega arith))

-- zeros

zeros : (n i : ℕ) → get_or (replicate {A = ℕ} n 0) i 0 ≡ 0
zeros zero i = refl
zeros (suc n) zero = refl
zeros (suc n) (suc i) = zeros n i

module _ (block : List ℕ) (n : ℕ) (blank : block ≡ replicate n 0) where
  byte_clear : (i : ℕ) → get_or block i 0 ≡ 0
  byte_clear i = ap (λ (s : List ℕ). get_or s i 0) blank ∙ zeros n i

  bit_clear : (i : ℕ) → bits_of block i ≡ false
  unfolding bits_of
  bit_clear i =
      let e : eqb (bit (get_or block (i / 8) 0) (i % 8)) 1 ≡ false
      = ap (λ (x : ℕ). eqb (bit x (i % 8)) 1) (byte_clear (i / 8)) ∙ ap (λ (x : ℕ). eqb (x % 2) 1) (zero-div (2 ^ (i % 8))) in
      cond_both (ltb i 32767) (eqb (bit (get_or block (i / 8) 0) (i % 8)) 1) false (λ b. b ≡ false) (λ _. e) (λ _. refl)

  blank_pairs : pairs_of block ≡ []
  blank_pairs =
      let none : pairs block ≡ 0 = omega (arith, byte_clear 0, byte_clear 1) in
      ap (λ (k : ℕ). map (pair_of block) (range_with_len 0 k)) none

-- a blank page is good and has no pairs
pub blank_page : (page : List ℕ) → page ≡ replicate 1024 0 → pairs_of page ≡ []
blank_page page e = blank_pairs page 1024 e

pub bits_blank : (blocks : Blocks) → ((n : ℕ) → blocks n ≡ replicate 1024 0) → (i : ℕ) → bits_in blocks i ≡ false
unfolding bits_in
bits_blank blocks blank i =
    cond_both (ltb i 32767) (bits_of (blocks (i / 8192)) (i % 8192)) false (λ b. b ≡ false) (λ _. bit_clear (blocks (i / 8192)) 1024 (blank (i / 8192)) (i % 8192)) (λ _. refl)

pub pages_blank : (blocks : Blocks) → ((n : ℕ) → blocks n ≡ replicate 1024 0) → (p : ℕ) → (contents_of blocks).pages p ≡ []
pages_blank blocks blank p =
    let page = page_in blocks p in
    contents_pages blocks p ∙ pairs_good page (blank_good page (blank (4 + p))) ∙ blank_page page (blank (4 + p))

pub blank_holds : BlankHolds
blank_holds d lawful blank =
    let c = contents_of (blocks_of d) in
    record {
      device = lawful;
      unclaimed = λ n _. blank n;
      sound = blank_sound c (record {
        clear = λ i. ap (λ (bits : ℕ → Bool). bits i) (contents_bits (blocks_of d)) ∙ bits_blank (blocks_of d) blank i;
        empty = pages_blank (blocks_of d) blank;
      });
      good = λ p. blank_good (page_in (blocks_of d) p) (blank (4 + p));
      held = λ key. ap (look key) (pages_blank (blocks_of d) blank (home c key));
      differ = differ_none;
    }

-- the pairs of the list

pub holds_exactly : HoldsExactly
holds_exactly pairs d h = record {
  differ = h.differ;
  held = λ pair in_list. ((once pair).some pair (h.held pair.0 ∙ look_held pair.0 pairs pair h.differ in_list (laws.reflexive pair.0))).0;
  all = λ pair there. (look_found pair.0 pairs pair (sym (h.held pair.0) ∙ (once pair).only pair there (laws.reflexive pair.0))).0;
}
  where
    c : Contents
    c = contents_of (blocks_of d)

    once : (pair : Pair) → HeldIs c pair.0
    once pair = holds_once c (pages_tidy (blocks_of d)) pair.0
