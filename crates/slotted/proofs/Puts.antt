-- What a write leaves.
use Rattle.std.proofs.Common.{◌≡◌, ℕ, ◌+◌, ◌<◌, ◌≤◌, ◌⊎◌, List, ◌++◌, length, get_or, take, drop, ap, ◌∙◌, inl, inr, ⊎_elim, arith, rules}
use borrow.Rule.Slice.PartMut.{put_mid}
use Rattle.devices.specs.Bytes.{put}
use Rattle.std.proofs.lemmas.List.{places, drop-drop, get_or-drop, get_or-take, length-append, length-drop, length-take, same_lists, take_at}

module _ (s : List ℕ) (i : ℕ) (bs : List ℕ) (room : i + length bs ≤ length s) where
  pub length_put : length (put s i bs) ≡ length s
  length_put = simp (length-append, length-take, length-drop) (omega arith)

  pub put_in : (j d : ℕ) → j < length bs → get_or (put s i bs) (i + j) d ≡ get_or bs j d
  put_in j d l = search (rules, places)

  pub put_apart : (p d : ℕ) → (p < i) ⊎ (i + length bs ≤ p) → get_or (put s i bs) p d ≡ get_or s p d
  put_apart p d h = ⊎_elim (λ l. search (rules, places)) (λ l. search (rules, places)) h

  long : (w p : ℕ) → length (take w (drop p (put s i bs))) ≡ length (take w (drop p s))
  long w p = simp (length-take, length-drop) (omega (arith, length_put))

  pub part_apart : (w p : ℕ) → (p + w ≤ i) ⊎ (i + length bs ≤ p) → take w (drop p (put s i bs)) ≡ take w (drop p s)
  part_apart w p h = same_lists _ _ (long w p) (λ k d l. let in_w : k < w = omega (arith, length-take w (drop p (put s i bs))) in simp (get_or-take, get_or-drop) (put_apart (p + k) d (⊎_elim (λ q. inl (omega arith)) (λ q. inr (omega arith)) h)))

  pub part_within : (w p : ℕ) → p + w ≤ length bs → take w (drop (i + p) (put s i bs)) ≡ take w (drop p bs)
  part_within w p h =
      same_lists _ _ (simp (length-take, length-drop) (omega (arith, length_put)))
      (λ k d l. let in_w : k < w = omega (arith, length-take w (drop (i + p) (put s i bs))) in search (rules, places, put_in))

-- a write to a part of a vector's elements, which are x while they are lent
pub put_vec : (s : List ℕ) (len : ℕ) → length s ≡ len → (x ys bs : List ℕ) (i w : ℕ) → x ≡ s → ys ≡ bs → w ≡ length bs → i + length bs ≤ length s → take len (put_mid i w x ys ++ drop (length (put_mid i w x ys)) s) ≡ put s i bs
put_vec s len long x ys bs i w a b width room =
    let e : put_mid i w x ys ≡ put s i bs = rw (a, b, width) (ap (λ (l : List ℕ). take i s ++ (bs ++ l)) (drop-drop (length bs) i s)) in
    take_at _ _ len (ap length e ∙ length_put s i bs room ∙ long) ∙ e
