-- The laws of a record kind, proved for members. Proofs only: they stand here, since an impl takes none from elsewhere.
use Rattle.std.proofs.Common.{◌≡◌, ℕ, ◌≤◌, Bool, true, false, cond, List, [], ◌∷◌, ◌++◌, length, get_or, Some, None, Option, refl, sym, subst, arith, rules}
use Rattle.std.proofs.lemmas.Bool.{eqb-true}
use Rattle.std.proofs.lemmas.Nat.{from_le_bytes-to_le_bytes_4}
use Rattle.std.proofs.lemmas.Bool.Decides.{nat_tests}
use Rattle.std.proofs.lemmas.Slice.Eq.{text_from_reads}
use Rattle.std.specs.Option.{option_map}
use Rattle.records.specs.Bytes.{Bytes}
use Rattle.records.specs.Member.{member_code, member_decoded, member_fits, sort_byte, sort_of}
use Rattle.records.specs.Words.{word_back, word_fits}
use Rattle.records.specs.declared.member.Member.{Member}
use Rattle.records.specs.declared.member.Sort.{Sort}
use Rattle.records.specs.declared.member.Sort.TheVariants.{Object, Data, Other}

pub member_fixed : (m : Member) → length (member_code m) ≡ 9
unfolding member_code
member_fixed m = refl

pub member_bounded : (m : Member) → member_fits m → (1 ≤ length (member_code m)) × (length (member_code m) ≤ 960)
member_bounded m fits = let e = member_fixed m in (omega arith, omega arith)

sort_back : (sort : Sort) → sort_of (sort_byte sort) ≡ Some sort
sort_back Object = refl
sort_back Data = refl
sort_back Other = refl

pub member_back : (m : Member) → member_fits m → member_decoded (member_code m) ≡ Some m
unfolding member_code member_decoded member_fits
member_back m fits =
    let offset = from_le_bytes-to_le_bytes_4 m.offset fits.0 in
    let length = from_le_bytes-to_le_bytes_4 m.length fits.1 in
    λ i. option_map (λ sort. record { offset = offset i; length = length i; sort = sort }) (sort_back m.sort i)

-- the sort of a byte has that byte
sort_only : (byte : ℕ) (sort : Sort) → sort_of byte ≡ Some sort → sort_byte sort ≡ byte
sort_only byte sort is = grind (arith, nat_tests)

-- what follows from a member that was decoded
mapped : {A B : Type 0} (f : A → B) (o : Option A) (y : B) → option_map f o ≡ Some y → (x : A) × (o ≡ Some x) × (f x ≡ y)
mapped f (Some x) y e = (x, refl, cc)
mapped f None y e = cc

tested : {A : Type 0} (b : Bool) (o : Option A) (y : A) → cond b o None ≡ Some y → b ≡ true
tested true o y e = refl
tested false o y e = cc

-- nine bytes are the code of the member that they are decoded to
module _ (o0 o1 o2 o3 l0 l1 l2 l3 byte : ℕ) where
  abbrev nine : List ℕ
  nine = o0 ∷ o1 ∷ o2 ∷ o3 ∷ l0 ∷ l1 ∷ l2 ∷ l3 ∷ byte ∷ []

  nine_only : (m : Member) → Bytes nine → member_decoded nine ≡ Some m → member_fits m × (member_code m ≡ nine)
  unfolding member_code member_decoded member_fits
  nine_only m small is =
      let (sort, known, whole) = mapped _ (sort_of byte) m is in
      let offset = word_back o0 o1 o2 o3 (small 0) (small 1) (small 2) (small 3) in
      let length = word_back l0 l1 l2 l3 (small 4) (small 5) (small 6) (small 7) in
      subst (λ (x : Member). member_fits x × (member_code x ≡ nine)) whole (
        (word_fits o0 o1 o2 o3 (small 0) (small 1) (small 2) (small 3), word_fits l0 l1 l2 l3 (small 4) (small 5) (small 6) (small 7)),
        λ i. offset i ++ (length i ++ sort_only byte sort known i ∷ []),
      )

pub member_only : (bytes : List ℕ) (m : Member) → Bytes bytes → member_decoded bytes ≡ Some m → member_fits m × (member_code m ≡ bytes)
unfolding member_decoded
member_only bytes m small is =
    let b : ℕ → ℕ = λ i. get_or bytes i 0 in
    let long : length bytes ≡ 9 = eqb-true _ _ (tested _ _ _ is) in
    let same = text_from_reads bytes (nine (b 0) (b 1) (b 2) (b 3) (b 4) (b 5) (b 6) (b 7) (b 8)) long (search rules) in
    subst (λ (x : List ℕ). Bytes x → member_decoded x ≡ Some m → member_fits m × (member_code m ≡ x)) (sym same) (nine_only _ _ _ _ _ _ _ _ _ m) small is
