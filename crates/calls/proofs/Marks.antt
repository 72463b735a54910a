-- What a write of a page, and of a directory block with one more bit, make of what blocks hold.
use Rattle.std.proofs.Common.{◌≡◌, ℕ, ◌+◌, ◌/◌, ◌%◌, ◌^◌, ◌<◌, ◌≤◌, Bool, true, false, cond, eqb, ltb, List, length, get_or, set, sym, ap, ap₂, ◌∙◌, ⊎_elim, arith}
use lib.Bits.{bit_or}
use mathlib.Core.Path.{fun_ext}
use Rattle.contents.proofs.Tests.{pairs_good}
use Rattle.contents.specs.Blocks.{Blocks, bits_in, page_in}
use Rattle.contents.specs.Contents.{Contents, contents_of, pairs_in}
use Rattle.calls.specs.Store.{with_bit}
use Rattle.devices.specs.Meaning.{put}
use Rattle.directory.proofs.Bits.{bits_set, set_here, set_other}
use Rattle.directory.specs.Tree.{bits_of, set_bit}
use Rattle.lookup.proofs.Looking.{bit_is}
use Rattle.page_edits.proofs.Back.{reads_back}
use Rattle.page_edits.specs.Write.{Fits, written}
use Rattle.pages.specs.Page.{Pair}
use Rattle.splits.proofs.Splits.{put_here, put_other}
use Rattle.splits.specs.Writes.{made, to_bit, to_page}
use Rattle.std.proofs.lemmas.Bool.{cases_eq, cases_lt, cond-false, cond-true, eq-eqb, le-ltb, ne_eqb}

-- the blocks after bit i is set
abbrev pub marked : Blocks → ℕ → Blocks
marked blocks i = put blocks (i / 8192) (with_bit (blocks (i / 8192)) i)

-- a bit of its block
pub bit_within : (block : List ℕ) (i : ℕ) → with_bit block (i % 8192) ≡ with_bit block i
bit_within block i =
    let e : i % 8192 % 8192 ≡ i % 8192 = omega arith in
    let f : i % 8192 % 8 ≡ i % 8 = omega arith in
    ap (λ (k : ℕ). set block (k / 8) (bit_or (get_or block (k / 8) 0) (2 ^ (i % 8192 % 8)))) e
    ∙ ap (λ (k : ℕ). set block (i % 8192 / 8) (bit_or (get_or block (i % 8192 / 8) 0) (2 ^ k))) f

bit_out : (blocks : Blocks) (i : ℕ) → 32767 ≤ i → bits_in blocks i ≡ false
unfolding bits_in
bit_out blocks i l = cond-false (ltb i 32767) (bits_of (blocks (i / 8192)) (i % 8192)) false (le-ltb i 32767 l)

-- a bit of a block with one more bit
with_bit_set : (block : List ℕ) (i j : ℕ) → length block ≡ 1024 → j / 8192 ≡ i / 8192 → bits_of (with_bit block i) (j % 8192) ≡ cond (eqb j i) true (bits_of block (j % 8192))
with_bit_set block i j whole same =
    let n = i % 8192 in
    let e : n % 8192 ≡ n = omega arith in
    ap (λ (s : List ℕ). bits_of s (j % 8192)) (sym (bit_within block i) ∙ ap (λ (k : ℕ). set block (k / 8) (bit_or (get_or block (k / 8) 0) (2 ^ (n % 8)))) e)
    ∙ bits_set block n (j % 8192) (omega arith) (omega arith)
    ∙ ⊎_elim
    (λ (q : j ≡ i). set_here (bits_of block) n (j % 8192) (ap (λ (k : ℕ). k % 8192) q) ∙ sym (cond-true (eqb j i) true (bits_of block (j % 8192)) (eq-eqb j i q)))
    (λ (q : j ≡ i → ⊥). set_other (bits_of block) n (j % 8192) (λ p. q (omega arith)) ∙ sym (cond-false (eqb j i) true (bits_of block (j % 8192)) (ne_eqb j i q)))
    (cases_eq j i)

module _ (blocks : Blocks) (i : ℕ) (range : i < 32767) where
  -- the directory has one more bit
  pub bits_marked : length (blocks (i / 8192)) ≡ 1024 → (j : ℕ) → bits_in (marked blocks i) j ≡ set_bit (bits_in blocks) i j
  bits_marked whole j = ⊎_elim inside outside (cases_lt j 32767)
    where
      here : j < 32767 → j / 8192 ≡ i / 8192 → bits_in (marked blocks i) j ≡ set_bit (bits_in blocks) i j
      here l e =
          bit_is (marked blocks i) j l
          ∙ ap (λ (s : List ℕ). bits_of s (j % 8192)) (put_here blocks (i / 8192) (with_bit (blocks (i / 8192)) i) (j / 8192) e)
          ∙ with_bit_set (blocks (i / 8192)) i j whole e
          ∙ ap (λ (n : ℕ). cond (eqb j i) true (bits_of (blocks n) (j % 8192))) (sym e)
          ∙ ap (cond (eqb j i) true) (sym (bit_is blocks j l))

      other : j < 32767 → (j / 8192 ≡ i / 8192 → ⊥) → bits_in (marked blocks i) j ≡ set_bit (bits_in blocks) i j
      other l n =
          bit_is (marked blocks i) j l
          ∙ ap (λ (s : List ℕ). bits_of s (j % 8192)) (put_other blocks (i / 8192) (with_bit (blocks (i / 8192)) i) (j / 8192) n)
          ∙ sym (bit_is blocks j l)
          ∙ sym (set_other (bits_in blocks) i j (λ e. n (ap (λ (k : ℕ). k / 8192) e)))

      inside : j < 32767 → bits_in (marked blocks i) j ≡ set_bit (bits_in blocks) i j
      inside l = ⊎_elim (here l) (other l) (cases_eq (j / 8192) (i / 8192))

      outside : 32767 ≤ j → bits_in (marked blocks i) j ≡ set_bit (bits_in blocks) i j
      outside l = bit_out (marked blocks i) j l ∙ sym (bit_out blocks j l) ∙ sym (set_other (bits_in blocks) i j (λ e. omega arith))

  -- and the pages are as they were
  pub contents_marked : length (blocks (i / 8192)) ≡ 1024 → contents_of (marked blocks i) ≡ made (to_bit i) (contents_of blocks)
  unfolding contents_of
  contents_marked whole =
      ap₂ {C = Contents} (λ (bits : ℕ → Bool) (pages : ℕ → List Pair). record { bits = bits; pages = pages }) (fun_ext (bits_marked whole))
      (fun_ext (λ p. ap pairs_in (put_other blocks (i / 8192) (with_bit (blocks (i / 8192)) i) (4 + p) (λ e. omega arith))))

module _ (blocks : Blocks) (p : ℕ) (ps : List Pair) (fits : Fits ps) where
  bits_kept : (j : ℕ) → bits_in (put blocks (4 + p) (written ps)) j ≡ bits_in blocks j
  bits_kept j =
      ⊎_elim
      (λ (l : j < 32767).
      bit_is (put blocks (4 + p) (written ps)) j l
      ∙ ap (λ (s : List ℕ). bits_of s (j % 8192)) (put_other blocks (4 + p) (written ps) (j / 8192) (λ e. omega arith))
      ∙ sym (bit_is blocks j l))
      (λ (l : 32767 ≤ j). bit_out (put blocks (4 + p) (written ps)) j l ∙ sym (bit_out blocks j l))
      (cases_lt j 32767)

  page_kept : (q : ℕ) → pairs_in (put blocks (4 + p) (written ps) (4 + q)) ≡ put (λ k. pairs_in (page_in blocks k)) p ps q
  page_kept q =
      ⊎_elim
      (λ (e : q ≡ p).
      ap pairs_in (put_here blocks (4 + p) (written ps) (4 + q) (ap (λ (k : ℕ). 4 + k) e))
      ∙ pairs_good (written ps) (reads_back ps fits).0
      ∙ (reads_back ps fits).1
      ∙ sym (put_here (λ k. pairs_in (page_in blocks k)) p ps q e))
      (λ (n : q ≡ p → ⊥).
      ap pairs_in (put_other blocks (4 + p) (written ps) (4 + q) (λ e. n (omega arith)))
      ∙ sym (put_other (λ k. pairs_in (page_in blocks k)) p ps q n))
      (cases_eq q p)

  -- a page has the pairs that are written to it
  pub contents_written : contents_of (put blocks (4 + p) (written ps)) ≡ made (to_page p ps) (contents_of blocks)
  unfolding contents_of
  contents_written =
      ap₂ {C = Contents} (λ (bits : ℕ → Bool) (pages : ℕ → List Pair). record { bits = bits; pages = pages }) (fun_ext bits_kept) (fun_ext page_kept)
