use Rattle.std.proofs.Common.{◌≡◌, ℕ, Bool, true, false, List, Decides, sym, refl, ap, ◌∙◌, ⊎_elim}
use Rattle.std.proofs.lemmas.Bool.{cases_Bool}
use Rattle.std.proofs.lemmas.Slice.Eq.{bytes_eq-Decides}
use Rattle.keys.specs.Hash.{hash}
use Rattle.keys.specs.Print.{print}
use Rattle.keys.specs.Same.{same, Laws, ByBytes}

pub by_bytes : ByBytes
unfolding same
by_bytes a b = bytes_eq-Decides a b

equal : (a b : List ℕ) → same a b ≡ true → a ≡ b
equal a b h = (by_bytes a b).0 h

pub laws : Laws
laws = record {
  reflexive = λ a. (by_bytes a a).1 refl;
  symmetric = λ a b h. (by_bytes b a).1 (sym (equal a b h));
  transitive = λ a b c h k. (by_bytes a c).1 (equal a b h ∙ equal b c k);
  hashed = λ a b h. ap hash (equal a b h);
  printed = λ a b h. ap print (equal a b h);
}

-- keys with other bytes are other keys
pub other : (a b : List ℕ) → (a ≡ b → ⊥) → false ≡ same a b
other a b ne = ⊎_elim (λ (t : same a b ≡ true). absurd (ne (equal a b t))) (λ (f : same a b ≡ false). sym f) (cases_Bool (same a b))

-- a test of the bytes is the test of sameness
pub is_same : (r : Bool) (a b : List ℕ) → Decides r (a ≡ b) → r ≡ same a b
is_same true a b d = sym ((by_bytes a b).1 (d.0 refl))
is_same false a b d =
    ⊎_elim (λ (t : same a b ≡ true). d.1 (equal a b t) ∙ sym t) (λ (f : same a b ≡ false). sym f) (cases_Bool (same a b))
