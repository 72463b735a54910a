-- The least number of splits that makes room.
use Rattle.std.proofs.Common.{◌≡◌, ℕ, zero, suc, ◌+◌, ◌-◌, ◌<◌, ◌≤◌, Bool, true, false, List, Option, Some, None, find, min, refl, ap, ◌∙◌, subst, ⊎_elim, arith}
use Rattle.pages.specs.Page.{Pair}
use Rattle.splits.specs.Laws.{PlansLeast}
use Rattle.splits.specs.Plan.{fits_at, plan}
use Rattle.std.proofs.lemmas.Bool.{both_ways, cases_order, cond_both}
use Rattle.std.specs.List.{range_with_len}

-- the first of n numbers from a on that passes a test, or none
abbrev pub First : (ℕ → Bool) → ℕ → ℕ → Option ℕ → Type 0
First test a n (Some s) = (a ≤ s) × (s < a + n) × (test s ≡ true) × ((r : ℕ) → a ≤ r → r < s → test r ≡ false)
First test a n None = (r : ℕ) → a ≤ r → r < a + n → test r ≡ false

pub first_found : (test : ℕ → Bool) (a n : ℕ) → First test a n (find test (range_with_len a n))
first_found test a zero = λ r l k. absurd (omega arith)
first_found test a (suc n) =
    cond_both (test a) (Some a) (find test (range_with_len (a + 1) n)) (First test a (suc n))
    (λ e. (omega arith, omega arith, e, λ r l k. absurd (omega arith)))
    (λ e. later (find test (range_with_len (a + 1) n)) e (first_found test (a + 1) n))
  where
    not_before : test a ≡ false → (r : ℕ) → a ≤ r → (a + 1 ≤ r → test r ≡ false) → test r ≡ false
    not_before e r l more = ⊎_elim (λ (q : a ≡ r). subst (λ (x : ℕ). test x ≡ false) q e) (λ w. more (⊎_elim (λ (k : a < r). omega arith) (λ (k : r < a). absurd (omega arith)) w)) (cases_order a r)

    later : (o : Option ℕ) → test a ≡ false → First test (a + 1) n o → First test a (suc n) o
    later (Some s) e f = (omega (arith, f.0), omega (arith, f.1), f.2, λ r l k. not_before e r l (λ m. f.3 r m k))
    later None e f = λ r l k. not_before e r l (λ m. f r m (omega arith))

-- there is one such answer
pub first_once : (test : ℕ → Bool) (a n : ℕ) (p q : Option ℕ) → First test a n p → First test a n q → p ≡ q
first_once test a n None None f g = refl
first_once test a n None (Some s) f g = absurd (both_ways (test s) (f s g.0 g.1) g.2)
first_once test a n (Some s) None f g = absurd (both_ways (test s) (g s f.0 f.1) f.2)
first_once test a n (Some r) (Some s) f g =
    ap Some
    (⊎_elim (λ (e : r ≡ s). e)
    (λ w. absurd (⊎_elim (λ (l : r < s). both_ways (test r) (g.3 r f.0 l) f.2) (λ (l : s < r). both_ways (test s) (f.3 s g.0 l) g.2) w))
    (cases_order r s))

-- an answer that is the first, of the numbers up to the limits, is the plan
module _ (pairs : List Pair) (key value : List ℕ) (t n : ℕ) (limit : n ≡ min 10 (15 - t)) where
  abbrev test : ℕ → Bool
  test s = fits_at pairs key value (t + s)

  first : (r : Option ℕ) → First test 0 (suc n) r → r ≡ plan pairs key value t
  unfolding plan
  first r f = first_once test 0 (suc n) r (find test (range_with_len 0 (suc n))) f (first_found test 0 (suc n)) ∙ ap (λ (m : ℕ). find test (range_with_len 0 (suc m))) limit

  pub plan_none : ((s : ℕ) → s ≤ n → test s ≡ false) → None ≡ plan pairs key value t
  plan_none never = first None (λ s _ l. never s (omega arith))

  pub plan_some : (s : ℕ) → s ≤ n → test s ≡ true → ((r : ℕ) → r < s → test r ≡ false) → Some s ≡ plan pairs key value t
  plan_some s l e sooner = first (Some s) (omega arith, omega arith, e, λ r _ k. sooner r k)

pub plans_least : PlansLeast
unfolding plan
plans_least pairs key value t l = record {
  some = λ s e.
      let f = subst (First test 0 n) e (first_found test 0 n) in
      (omega (arith, f.1), omega (arith, f.1), f.2, λ r k. f.3 r (omega arith) k);
  none = λ e s k m. subst (First test 0 n) e (first_found test 0 n) s (omega arith) (omega arith);
}
  where
    n : ℕ
    n = suc (min 10 (15 - t))

    test : ℕ → Bool
    test s = fits_at pairs key value (t + s)
