-- The directory's bits as code reads and sets them, and the low bits as code masks them.
use Rattle.std.proofs.Common.{◌≡◌, ℕ, Option, Some, None, MatchOption, unwrap_or, Bor, suc, ◌+◌, ◌-◌, ◌*◌, ◌/◌, ◌%◌, ◌^◌, ◌<◌, ◌≤◌, Bool, true, false, eqb, ltb, List, length, get_or, set, sym, refl, ap, ◌∙◌, subst, ⊎_elim, mod-eq_of_lt, one-mul, pow-suc, arith, get_or-set_other, get_or-set_same, pow_pos, pow-add}
use native.Mathlib.Nat.{zero-div, div_self, div-eq_of_lt, mul-mod_left}
use Rattle.std.specs.Option.{option_map}
use lib.Bits.{bit_and, bit_or, and_mask, or_shr, or_mod, or_zero_r}
use lib.Pow.{pow-lt, shl-shr}
use Rattle.std.proofs.lemmas.Bool.{cond-true, cond-false, cond_both, lt-ltb, le-ltb, eq-eqb, ne_eqb, cases_eq, cases_lt, cases_order}
use Rattle.directory.specs.Tree.{bit, low, bits_of, set_bit}

-- a shift and a mask read bit t
pub bit_masked : (h t : ℕ) → bit_and (h / 2 ^ t) 1 ≡ bit h t
bit_masked h t = and_mask (h / 2 ^ t) 1

-- a mask of n ones leaves the low n bits
pub low_masked : (h n : ℕ) → n < 32 → bit_and h (1 * 2 ^ n % 4294967296 - 1) ≡ low h n
low_masked h n l =
    let e : 1 * 2 ^ n % 4294967296 ≡ 2 ^ n = ap (λ (x : ℕ). x % 4294967296) (one-mul (2 ^ n)) ∙ mod-eq_of_lt (pow-lt {j = 32} l) in
    ap (λ (x : ℕ). bit_and h (x - 1)) e ∙ and_mask h n

pub bits_in : (bytes : List ℕ) (i : ℕ) → i < 32767 → bits_of bytes i ≡ eqb (bit (get_or bytes (i / 8) 0) (i % 8)) 1
unfolding bits_of
bits_in bytes i l = cond-true (ltb i 32767) (eqb (bit (get_or bytes (i / 8) 0) (i % 8)) 1) false (lt-ltb i 32767 l)

pub bits_out : (bytes : List ℕ) (i : ℕ) → 32767 ≤ i → bits_of bytes i ≡ false
unfolding bits_of
bits_out bytes i l = cond-false (ltb i 32767) (eqb (bit (get_or bytes (i / 8) 0) (i % 8)) 1) false (le-ltb i 32767 l)

-- whatever code takes for the bit, it need only be the bit
pub bits_from : (bytes : List ℕ) (i : ℕ) {x : ℕ} → i < 32767 → x ≡ bit (get_or bytes (i / 8) 0) (i % 8) → eqb x 1 ≡ bits_of bytes i
bits_from bytes i l e = ap (λ (x : ℕ). eqb x 1) e ∙ sym (bits_in bytes i l)

-- the byte that code finds, if there is one, has the bit; past the end of the bytes each bit is clear
pub bit_found : (bytes : List ℕ) (i : ℕ) (byte : Option (Bor ℕ)) (r : Bool) → i < 32767
    → unwrap_or (option_map (λ b. b.now) byte) 0 ≡ get_or bytes (i / 8) 0
    → MatchOption byte (r ≡ false) (λ b. r ≡ eqb (bit_and (b.now / 2 ^ (i % 8)) 1) 1)
    → r ≡ bits_of bytes i
bit_found bytes i (Some b) r l e is = is ∙ bits_from bytes i l (bit_masked b.now (i % 8) ∙ ap (λ (x : ℕ). bit x (i % 8)) e)
bit_found bytes i None r l e is =
    is ∙ bits_from bytes i {x = 0} l (sym (ap (λ (x : ℕ). x % 2) (zero-div (2 ^ (i % 8)))) ∙ ap (λ (x : ℕ). bit x (i % 8)) e)

-- one bit set among bits

pub set_keeps : (bits : ℕ → Bool) (i j : ℕ) → bits j ≡ true → set_bit bits i j ≡ true
set_keeps bits i j e = cond_both (eqb j i) true (bits j) (λ b. b ≡ true) (λ _. refl) (λ _. e)

pub set_other : (bits : ℕ → Bool) (i j : ℕ) → (j ≡ i → ⊥) → set_bit bits i j ≡ bits j
set_other bits i j n = cond-false (eqb j i) true (bits j) (ne_eqb j i n)

pub set_here : (bits : ℕ → Bool) (i j : ℕ) → j ≡ i → set_bit bits i j ≡ true
set_here bits i j e = cond-true (eqb j i) true (bits j) (eq-eqb j i e)

-- one bit set in a number

bit_of_or : (x y t : ℕ) → bit (bit_or x y) t ≡ bit_or (bit x t) (bit y t)
bit_of_or x y t = ap (λ (z : ℕ). z % 2) (or_shr x y t) ∙ or_mod (x / 2 ^ t) (y / 2 ^ t) 1

power_here : (t : ℕ) → bit (2 ^ t) t ≡ 1
power_here t = ap (λ (z : ℕ). z % 2) (div_self (pow_pos t))

power_other : (s t : ℕ) → (s ≡ t → ⊥) → bit (2 ^ s) t ≡ 0
power_other s t n = ⊎_elim (λ e. absurd (n e)) (λ w. ⊎_elim above below w) (cases_order s t)
  where
    above : s < t → bit (2 ^ s) t ≡ 0
    above l = ap (λ (z : ℕ). z % 2) (div-eq_of_lt (pow-lt l))

    below : t < s → bit (2 ^ s) t ≡ 0
    below l =
        let m = s - suc t in
        let e : suc m + t ≡ s = omega arith in
        subst (λ (k : ℕ). bit (2 ^ k) t ≡ 0) e
        (ap (λ (z : ℕ). z / 2 ^ t % 2) (pow-add 2 (suc m) t) ∙ ap (λ (z : ℕ). z % 2) (shl-shr (2 ^ suc m) t ∙ pow-suc 2 m) ∙ mul-mod_left (2 ^ m) 2)

pub or_bit_here : (x t : ℕ) → bit (bit_or x (2 ^ t)) t ≡ 1
or_bit_here x t = bit_of_or x (2 ^ t) t ∙ ap (bit_or (bit x t)) (power_here t) ∙ ⊎_elim (λ e. ap (λ (z : ℕ). bit_or z 1) e) (λ n. ap (λ (z : ℕ). bit_or z 1) (one n)) (cases_eq (bit x t) 0)
  where
    one : (bit x t ≡ 0 → ⊥) → bit x t ≡ 1
    one n = omega arith

pub or_bit_other : (x s t : ℕ) → (s ≡ t → ⊥) → bit (bit_or x (2 ^ s)) t ≡ bit x t
or_bit_other x s t n = bit_of_or x (2 ^ s) t ∙ ap (bit_or (bit x t)) (power_other s t n) ∙ or_zero_r (bit x t)

-- one bit set in a byte of the directory
pub bits_set : (bytes : List ℕ) (i j : ℕ) → i < 32767 → i / 8 < length bytes
    → bits_of (set bytes (i / 8) (bit_or (get_or bytes (i / 8) 0) (2 ^ (i % 8)))) j ≡ set_bit (bits_of bytes) i j
bits_set bytes i j l k = ⊎_elim here (λ n. other n ∙ sym (set_other (bits_of bytes) i j n)) (cases_eq j i)
  where
    byte : ℕ
    byte = get_or bytes (i / 8) 0

    with : List ℕ
    with = set bytes (i / 8) (bit_or byte (2 ^ (i % 8)))

    at : get_or with (i / 8) 0 ≡ bit_or byte (2 ^ (i % 8))
    at = get_or-set_same bytes (i / 8) (bit_or byte (2 ^ (i % 8))) 0 k

    here : j ≡ i → bits_of with j ≡ set_bit (bits_of bytes) i j
    here e =
        ap (bits_of with) e
        ∙ bits_in with i l
        ∙ eq-eqb (bit (get_or with (i / 8) 0) (i % 8)) 1 (ap (λ (x : ℕ). bit x (i % 8)) at ∙ or_bit_here byte (i % 8))
        ∙ sym (set_here (bits_of bytes) i j e)

    same_byte : (j ≡ i → ⊥) → j / 8 ≡ i / 8 → bit (get_or with (j / 8) 0) (j % 8) ≡ bit (get_or bytes (j / 8) 0) (j % 8)
    same_byte n q =
        ap (λ (x : ℕ). bit (get_or with x 0) (j % 8)) q
        ∙ ap (λ (x : ℕ). bit x (j % 8)) at
        ∙ or_bit_other byte (i % 8) (j % 8) (λ w. n (omega arith))
        ∙ ap (λ (x : ℕ). bit (get_or bytes x 0) (j % 8)) (sym q)

    other_byte : (j / 8 ≡ i / 8 → ⊥) → bit (get_or with (j / 8) 0) (j % 8) ≡ bit (get_or bytes (j / 8) 0) (j % 8)
    other_byte n = ap (λ (x : ℕ). bit x (j % 8)) (get_or-set_other bytes (i / 8) (j / 8) (bit_or byte (2 ^ (i % 8))) 0 n)

    other : (j ≡ i → ⊥) → bits_of with j ≡ bits_of bytes j
    other n =
        ⊎_elim
        (λ m. bits_in with j m ∙ ap (λ (x : ℕ). eqb x 1) (⊎_elim (same_byte n) other_byte (cases_eq (j / 8) (i / 8))) ∙ sym (bits_in bytes j m))
        (λ m. bits_out with j m ∙ sym (bits_out bytes j m))
        (cases_lt j 32767)
