-- What a search of a range of numbers answers.
use Rattle.std.proofs.Common.{◌≡◌, ℕ, zero, suc, ◌+◌, ◌-◌, ◌<◌, ◌≤◌, Bool, true, false, Option, Some, None, MatchOption, find, refl, ap, ◌∙◌, ⊎_elim, arith}
use Rattle.std.proofs.lemmas.Bool.{both_ways, cases_eq, cases_order, cond_both}
use Rattle.std.specs.List.{range_with_len}

-- the first number from n up to m that passes, or none does
abbrev pub First : (ℕ → Bool) → ℕ → ℕ → Option ℕ → Type 0
First test n m r =
    MatchOption r ((k : ℕ) → n ≤ k → k < m → test k ≡ false)
    (λ i. (n ≤ i) × (i < m) × (test i ≡ true) × ((k : ℕ) → n ≤ k → k < i → test k ≡ false))

module _ (test : ℕ → Bool) where
  -- the numbers that fail may be known to do so only below m
  pub first_below : (n e m : ℕ) (r : Option ℕ) → e ≡ m
      → MatchOption r ((k : ℕ) → n ≤ k → k < e → k < m → test k ≡ false) (λ i. (n ≤ i) × (i < e) × (test i ≡ true) × ((k : ℕ) → n ≤ k → k < i → k < m → test k ≡ false))
      → First test n m r
  first_below n e m None is h = λ k a b. h k a (omega arith) b
  first_below n e m (Some i) is h = (h.0, omega (arith, h.1), h.2, λ k a b. h.3 k a b (omega (arith, h.1)))

  -- there is one such answer
  pub one_first : (n m : ℕ) (r s : Option ℕ) → First test n m r → First test n m s → r ≡ s
  one_first n m None None f g = refl
  one_first n m None (Some j) f g = absurd (both_ways (test j) (f j g.0 g.1) g.2)
  one_first n m (Some i) None f g = absurd (both_ways (test i) (g i f.0 f.1) f.2)
  one_first n m (Some i) (Some j) f g =
      ⊎_elim (λ (e : i ≡ j). ap Some e)
      (λ w. absurd (⊎_elim (λ (l : i < j). both_ways (test i) (g.3 i f.0 l) f.2) (λ (l : j < i). both_ways (test j) (f.3 j g.0 l) g.2) w))
      (cases_order i j)

  -- and a search finds it
  fails_here : (n i : ℕ) → test n ≡ false → ((k : ℕ) → n + 1 ≤ k → k < i → test k ≡ false) → (k : ℕ) → n ≤ k → k < i → test k ≡ false
  fails_here n i fails later k a b = ⊎_elim (λ (e : k ≡ n). ap test e ∙ fails) (λ (ne : k ≡ n → ⊥). later k (omega arith) b) (cases_eq k n)

  first_later : (n m : ℕ) (r : Option ℕ) → test n ≡ false → First test (n + 1) m r → First test n m r
  first_later n m None fails h = fails_here n m fails h
  first_later n m (Some i) fails h = (omega (arith, h.0), h.1, h.2, fails_here n i fails h.3)

  find_among : (n m k : ℕ) → m - n ≡ k → First test n m (find test (range_with_len n k))
  find_among n m zero e = λ k a b. absurd (omega arith)
  find_among n m (suc k) e =
      cond_both (test n) (Some n) (find test (range_with_len (n + 1) k)) (First test n m)
      (λ passes. (omega arith, omega arith, passes, λ k a b. absurd (omega arith)))
      (λ fails. first_later n m _ fails (find_among (n + 1) m k (omega arith)))

  pub find_first : (n m : ℕ) → First test n m (find test (range_with_len n (m - n)))
  find_first n m = find_among n m (m - n) refl
