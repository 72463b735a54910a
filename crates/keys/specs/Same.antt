-- When two keys are the same: the one definition that every other names. Proofs use its laws and do not open it.
use Rattle.std.specs.Prelude.{◌≡◌, ℕ, Bool, true, List, Decides}
use Rattle.std.specs.Str.{bytes_eq}
use Rattle.keys.specs.Hash.{hash}
use Rattle.keys.specs.Print.{print}

unfoldable pub same : List ℕ → List ℕ → Bool
same a b = bytes_eq a b

-- the laws of sameness; same keys have the same hash and the same print
pub record Laws : Type 0 where
  pub reflexive : (a : List ℕ) → same a a ≡ true
  pub symmetric : (a b : List ℕ) → same a b ≡ true → same b a ≡ true
  pub transitive : (a b c : List ℕ) → same a b ≡ true → same b c ≡ true → same a c ≡ true
  pub hashed : (a b : List ℕ) → same a b ≡ true → hash a ≡ hash b
  pub printed : (a b : List ℕ) → same a b ≡ true → print a ≡ print b

-- keys are the same exactly when their bytes are equal
abbrev pub ByBytes : Type 0
ByBytes = (a b : List ℕ) → Decides (same a b) (a ≡ b)
