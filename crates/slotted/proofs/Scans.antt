-- One record cut off the bytes that are left.
use Rattle.std.proofs.Common.{◌≡◌, ℕ, ◌+◌, ◌*◌, ◌/◌, ◌<◌, ◌≤◌, List, ◌++◌, length, get_or, drop, sym, refl, ap, ◌∙◌, arith}
use Rattle.slotted.specs.Records.{blank_at, free_at, marked_at, number_at, records, used_at}
use Rattle.slotted.specs.Bytes.{word}
use Rattle.std.proofs.lemmas.List.{drop_at, drop-drop, get_or_append_left, get_or-drop, length-append, length-drop}

-- what the record says, as the code reads it, and what is left after it
pub record Turn (s r after : List ℕ) (k : ℕ) : Type 0 where
  pub used : used_at s k ≡ marked_at r 0
  pub free : free_at s k ≡ blank_at r 0
  pub number : number_at s k ≡ word r 2
  pub below : k < records s
  pub inside : 1030 * (k + 1) ≤ length s
  pub left : after ≡ drop (1030 * (k + 1)) s

module _ (s rest after r : List ℕ) (k : ℕ) (cut : rest ≡ r ++ after) (long : length r ≡ 1030) (at : rest ≡ drop (1030 * k) s) where
  byte : (i p : ℕ) → i < 6 → p ≡ 1030 * k + i → get_or s p 0 ≡ get_or r i 0
  byte i p l e =
      ap (λ (x : ℕ). get_or s x 0) e
      ∙ sym (get_or-drop (1030 * k) s i 0)
      ∙ ap (λ (l : List ℕ). get_or l i 0) (sym at ∙ cut)
      ∙ get_or_append_left r after 0 i (omega arith)

  pub turn : Turn s r after k
  unfolding used_at free_at number_at
  turn =
      let b0 = byte 0 (1030 * k) (omega arith) (omega arith) in
      let b1 = byte 1 (1030 * k + 1) (omega arith) refl in
      let b2 = byte 2 (1030 * k + 2) (omega arith) refl in
      let b3 = byte 3 (1030 * k + 2 + 1) (omega arith) (omega arith) in
      let b4 = byte 4 (1030 * k + 2 + 2) (omega arith) (omega arith) in
      let b5 = byte 5 (1030 * k + 2 + 3) (omega arith) (omega arith) in
      let inside : 1030 * (k + 1) ≤ length s = omega (arith, ap length (sym at ∙ cut), length-append r after, length-drop (1030 * k) s) in
      record {
        used = cc;
        free = cc;
        number = cc;
        below = omega arith;
        inside = inside;
        left = sym (drop_at r after 1030 long) ∙ ap (drop 1030) (sym cut ∙ at) ∙ drop-drop 1030 (1030 * k) s ∙ ap (λ (n : ℕ). drop n s) (omega arith);
      }

-- how many records are still to come fits
pub to_come : (s after : List ℕ) (k size : ℕ) → size ≡ 1030 → 1030 * k ≤ length s → after ≡ drop (1030 * k) s → records s ≤ 65544 → k + length after / size < 18446744073709551616
to_come s after k size z inside left few = rw z (omega (arith, ap length left, length-drop (1030 * k) s))
