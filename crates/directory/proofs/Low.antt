-- The low bits of a number.
use Rattle.std.proofs.Common.{◌≡◌, ℕ, suc, ◌+◌, ◌-◌, ◌*◌, ◌/◌, ◌%◌, ◌^◌, ◌<◌, ◌≤◌, sym, ap, ◌∙◌, subst, mod-lt, mod-eq_of_lt, add_comm, one-add, arith, pow_pos, pow_mono}
use lib.Pow.{mod-pow-add, mod-mod-pow, field}
use Rattle.directory.specs.Tree.{bit, low}

pub low_lt : (h t : ℕ) → low h t < 2 ^ t
low_lt h t = mod-lt h (pow_pos t)

-- a number that fits has no other bits
pub low_all : (h w t : ℕ) → h < 2 ^ w → w ≤ t → low h t ≡ h
low_all h w t l k = let m = pow_mono k in mod-eq_of_lt (omega arith)

-- one bit more
pub low_suc : (h t : ℕ) → low h (suc t) ≡ low h t + bit h t * 2 ^ t
low_suc h t =
    subst (λ (k : ℕ). h % 2 ^ k ≡ bit h t * 2 ^ t + low h t) (one-add t) (mod-pow-add h 1 t)
    ∙ add_comm (bit h t * 2 ^ t) (low h t)

pub bit_low : (h t : ℕ) → low h (suc t) / 2 ^ t ≡ bit h t
bit_low h t = subst (λ (k : ℕ). h % 2 ^ k / 2 ^ t ≡ bit h t) (one-add t) (field h 1 t)

-- fewer bits of the low bits
pub low_low : (h s t : ℕ) → s ≤ t → low (low h t) s ≡ low h s
low_low h s t l =
    let e : (t - s) + s ≡ t = omega arith in
    subst (λ (k : ℕ). h % 2 ^ k % 2 ^ s ≡ h % 2 ^ s) e (mod-mod-pow h (t - s) s)

-- numbers that agree in t low bits agree in fewer
pub low_fewer : (g h s t : ℕ) → s ≤ t → low g t ≡ low h t → low g s ≡ low h s
low_fewer g h s t l e = sym (low_low g s t l) ∙ ap (λ (x : ℕ). low x s) e ∙ low_low h s t l
