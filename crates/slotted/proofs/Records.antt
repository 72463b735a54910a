-- The parts of a fresh record, as they are written one after the other.
use Rattle.std.proofs.Common.{◌≡◌, ℕ, ◌+◌, ◌-◌, ◌≤◌, List, [], ◌∷◌, ◌++◌, length, take, drop, replicate, ap, ◌∙◌, arith}
use borrow.Rule.Slice.PartMut.{put_mid}
use Rattle.slotted.specs.Bytes.{le4}
use Rattle.slotted.specs.Records.{fresh}
use Rattle.std.proofs.lemmas.List.{drop_all, length-append, length-drop, length-take}

joined : (s mark number zeros : List ℕ) (n k : ℕ) → mark ≡ 83 ∷ 68 ∷ [] → number ≡ le4 n → zeros ≡ replicate 1024 0 → length s ≤ k + 6 → put_mid 6 k (put_mid 2 4 (mark ++ drop 2 s) number) zeros ≡ fresh n
unfolding fresh
joined s mark number zeros n k a b d room =
    let rest : drop k (drop 4 (drop 2 s)) ≡ [] = drop_all k _ (simp length-drop (omega arith)) in
    rw (a, b, d, rest)

module _ (s mark number : List ℕ) (n : ℕ) where
  abbrev numbered : List ℕ
  numbered = put_mid 2 4 (mark ++ drop 2 s) number

  pub fresh_parts : (zeros : List ℕ) → length s ≡ 1030 → mark ≡ 83 ∷ 68 ∷ [] → number ≡ le4 n → zeros ≡ replicate (length (take (length numbered - 6) (drop 6 numbered))) 0 → put_mid 6 (length numbered - 6) numbered zeros ≡ fresh n
  fresh_parts zeros room a b d =
      let long : length numbered ≡ 1030 = simp (length-append, length-take, length-drop) (omega (arith, ap length a, ap length b)) in
      let width : length (take (length numbered - 6) (drop 6 numbered)) ≡ 1024 = simp (length-take, length-drop) (omega (arith, long)) in
      joined s mark number zeros n _ a b (d ∙ ap (λ (k : ℕ). replicate k 0) width) (omega (arith, long))
