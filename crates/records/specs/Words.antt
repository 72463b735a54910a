-- Numbers of two and of four bytes, for the proofs of the laws: each fits, and its bytes are those that it was read from.
use Rattle.std.proofs.Common.{◌≡◌, ℕ, zero, suc, ◌^◌, ◌<◌, [], ◌∷◌, get_or, refl, arith, lit<}
use Rattle.std.proofs.lemmas.Nat.{le_bytes_2, le_bytes_4}
use Rattle.std.specs.Int.{from_le_bytes, to_le_bytes, w16, w32}

module _ (a b : ℕ) (p : a < 256) (q : b < 256) where
  pub short_fits : from_le_bytes w16 (a ∷ b ∷ []) < 2 ^ 16
  short_fits = omega arith

  two : (i : ℕ) → get_or (a ∷ b ∷ []) i 0 < 256
  two zero = p
  two (suc zero) = q
  two (suc (suc i)) = lit< tt

  pub short_back : to_le_bytes w16 (from_le_bytes w16 (a ∷ b ∷ [])) ≡ a ∷ b ∷ []
  short_back = le_bytes_2 (a ∷ b ∷ []) _ refl two refl

module _ (a b c d : ℕ) (p : a < 256) (q : b < 256) (r : c < 256) (s : d < 256) where
  pub word_fits : from_le_bytes w32 (a ∷ b ∷ c ∷ d ∷ []) < 2 ^ 32
  word_fits = omega arith

  four : (i : ℕ) → get_or (a ∷ b ∷ c ∷ d ∷ []) i 0 < 256
  four zero = p
  four (suc zero) = q
  four (suc (suc zero)) = r
  four (suc (suc (suc zero))) = s
  four (suc (suc (suc (suc i)))) = lit< tt

  pub word_back : to_le_bytes w32 (from_le_bytes w32 (a ∷ b ∷ c ∷ d ∷ [])) ≡ a ∷ b ∷ c ∷ d ∷ []
  word_back = le_bytes_4 (a ∷ b ∷ c ∷ d ∷ []) _ refl four refl
