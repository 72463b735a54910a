use Rattle.std.proofs.Common.{◌≡◌, ℕ, zero, suc, ◌<◌, ◌≤◌, true, false, not, ◌&&◌, eqb, ltb, ◌⊎◌, Some, is_some, Decides, sym, refl, ap, ◌∙◌, subst, inl, inr, ⊎_elim, arith}
use Rattle.slotted.specs.Table.{Table, Good, good_at, good_to, record_of, slot_to, used_to}
use Rattle.std.proofs.lemmas.Bool.{and_from, and_left, and_parts, and_right, both_ways, cases_Bool, cases_eq, cond-false, cond-true, eq-eqb, eqb-true, lt-ltb, ltb-true, ne_eqb}
use Rattle.std.proofs.lemmas.Bool.Decides.{Decides-below_and}

pub zero_or : (x : ℕ) → (x ≡ 0) ⊎ ((k : ℕ) × (x ≡ suc k))
zero_or zero = inl refl
zero_or (suc k) = inr (k, refl)

pub record_none : (x : ℕ) → is_some (record_of x) ≡ false → x ≡ 0
record_none zero e = refl
record_none (suc k) e = cc

pub record_some : (x k : ℕ) → record_of x ≡ Some k → x ≡ suc k
record_some zero k e = cc
record_some (suc j) k e = cc

pub some_record : (x : ℕ) → is_some (record_of x) ≡ not (eqb x 0)
some_record zero = refl
some_record (suc k) = ap not (sym (ne_eqb (suc k) 0 (λ e. cc)))

module _ (t : Table) where
  pub used_yes : (m : ℕ) → t.used m ≡ true → used_to t (suc m) ≡ suc (used_to t m)
  unfolding used_to
  used_yes m e = cond-true (t.used m) (suc (used_to t m)) (used_to t m) e

  pub used_not : (m : ℕ) → t.used m ≡ false → used_to t (suc m) ≡ used_to t m
  unfolding used_to
  used_not m e = cond-false (t.used m) (suc (used_to t m)) (used_to t m) e

  pub slot_here : (n m : ℕ) → t.used m ≡ true → t.number m ≡ n → slot_to t n (suc m) ≡ suc m
  unfolding slot_to
  slot_here n m e f = cond-true (t.used m && eqb (t.number m) n) (suc m) (slot_to t n m) (and_from _ _ e (eq-eqb _ _ f))

  pub slot_unused : (n m : ℕ) → t.used m ≡ false → slot_to t n (suc m) ≡ slot_to t n m
  unfolding slot_to
  slot_unused n m e = cond-false (t.used m && eqb (t.number m) n) (suc m) (slot_to t n m) (and_left _ _ e)

  pub slot_other : (n m : ℕ) → (t.number m ≡ n → ⊥) → slot_to t n (suc m) ≡ slot_to t n m
  unfolding slot_to
  slot_other n m e = cond-false (t.used m && eqb (t.number m) n) (suc m) (slot_to t n m) (and_right _ _ (ne_eqb _ _ e))

  pub used_none : used_to t 0 ≡ 0
  unfolding used_to
  used_none = refl

  pub slot_start : (n : ℕ) → slot_to t n 0 ≡ 0
  unfolding slot_to
  slot_start n = refl

  pub used_le : (m : ℕ) → used_to t m ≤ m
  used_le zero = omega (arith, used_none)
  used_le (suc m) =
      let h = used_le m in
      ⊎_elim (λ e. omega (arith, used_yes m e)) (λ e. omega (arith, used_not m e)) (cases_Bool (t.used m))

  pub used_full : (m : ℕ) → ((k : ℕ) → k < m → t.used k ≡ true) → used_to t m ≡ m
  used_full zero h = used_none
  used_full (suc m) h = used_yes m (h m (omega arith)) ∙ ap suc (used_full m (λ k l. h k (omega arith)))

  -- the record of a slot
  pub slot_found : (n m k : ℕ) → slot_to t n m ≡ suc k → (k < m) × (t.used k ≡ true) × (t.number k ≡ n)
  slot_found n zero k e = let z : ⊥ = omega (arith, slot_start n) in elim z [ ]
  slot_found n (suc m) k e =
      ⊎_elim
      (λ u. ⊎_elim
      (λ f.
      let q : m ≡ k = omega (arith, slot_here n m u f) in
      (omega arith, subst (λ (x : ℕ). t.used x ≡ true) q u, subst (λ (x : ℕ). t.number x ≡ n) q f))
      (λ f. let r = slot_found n m k (sym (slot_other n m f) ∙ e) in (omega arith, r.1, r.2))
      (cases_eq (t.number m) n))
      (λ u. let r = slot_found n m k (sym (slot_unused n m u) ∙ e) in (omega arith, r.1, r.2))
      (cases_Bool (t.used m))

  pub slot_none : (n m : ℕ) → slot_to t n m ≡ 0 → (k : ℕ) → k < m → t.used k ≡ true → t.number k ≡ n → ⊥
  slot_none n zero e k l u f = omega arith
  slot_none n (suc m) e k l u f =
      ⊎_elim
      (λ q. omega (arith, slot_here n m (subst (λ (x : ℕ). t.used x ≡ true) q u) (subst (λ (x : ℕ). t.number x ≡ n) q f)))
      (λ q.
      let w : slot_to t n m ≡ 0 = ⊎_elim
      (λ v. ⊎_elim
      (λ g. let z : ⊥ = omega (arith, slot_here n m v g) in elim z [ ])
      (λ g. sym (slot_other n m g) ∙ e)
      (cases_eq (t.number m) n))
      (λ v. sym (slot_unused n m v) ∙ e)
      (cases_Bool (t.used m)) in
      slot_none n m w k (omega arith) u f)
      (cases_eq k m)

  pub slot_shorter : (n m k : ℕ) → slot_to t n m ≡ 0 → k ≤ m → slot_to t n k ≡ 0
  slot_shorter n m k e l =
      ⊎_elim
      (λ z. z)
      (λ p.
      let r = slot_found n k p.0 p.1 in
      let z : ⊥ = slot_none n m e p.0 (omega arith) r.1 r.2 in
      elim z [ ])
      (zero_or (slot_to t n k))

  module _ (limit : ℕ) where
    pub all_good : (m : ℕ) → Decides (good_to t limit m) ((k : ℕ) → k < m → good_at t limit k ≡ true)
    unfolding good_to
    all_good = Decides-below_and (good_at t limit) (λ k. good_at t limit k ≡ true) (good_to t limit) (λ k. (λ e. e, λ e. e)) refl (λ _. refl)

    -- what good_at says of a used record, and of another
    pub good_used : (k : ℕ) → good_at t limit k ≡ true → t.used k ≡ true → (used_to t k ≡ k) × (t.number k < limit) × (slot_to t (t.number k) k ≡ 0)
    unfolding good_at
    good_used k g e =
        let b = ltb (t.number k) limit && eqb (slot_to t (t.number k) k) 0 in
        let h : (eqb (used_to t k) k && b) ≡ true = sym (cond-true (t.used k) (eqb (used_to t k) k && b) (t.free k) e) ∙ g in
        let p = and_parts (eqb (used_to t k) k) b h in
        let q = and_parts (ltb (t.number k) limit) (eqb (slot_to t (t.number k) k) 0) p.1 in
        (eqb-true _ _ p.0, ltb-true _ _ q.0, eqb-true _ _ q.1)

    pub good_free : (k : ℕ) → good_at t limit k ≡ true → t.used k ≡ false → t.free k ≡ true
    unfolding good_at
    good_free k g e = sym (cond-false (t.used k) (eqb (used_to t k) k && (ltb (t.number k) limit && eqb (slot_to t (t.number k) k) 0)) (t.free k) e) ∙ g

    pub used_good : (k : ℕ) → t.used k ≡ true → used_to t k ≡ k → t.number k < limit → slot_to t (t.number k) k ≡ 0 → good_at t limit k ≡ true
    unfolding good_at
    used_good k e f l s = cond-true (t.used k) _ (t.free k) e ∙ and_from _ _ (eq-eqb _ _ f) (and_from _ _ (lt-ltb _ _ l) (eq-eqb _ _ s))

    pub free_good : (k : ℕ) → t.used k ≡ false → t.free k ≡ true → good_at t limit k ≡ true
    unfolding good_at
    free_good k e f = cond-false (t.used k) _ (t.free k) e ∙ f

    -- and what makes it false
    pub used_bad : (k : ℕ) → t.used k ≡ true → ((used_to t k ≡ k) × (t.number k < limit) × (slot_to t (t.number k) k ≡ 0) → ⊥) → good_at t limit k ≡ false
    used_bad k e f = ⊎_elim (λ g. let z : ⊥ = f (good_used k g e) in elim z [ ]) (λ g. g) (cases_Bool (good_at t limit k))

    pub free_bad : (k : ℕ) → t.used k ≡ false → t.free k ≡ false → good_at t limit k ≡ false
    unfolding good_at
    free_bad k e f = cond-false (t.used k) _ (t.free k) e ∙ f

    pub good_shorter : (m k : ℕ) → good_to t limit m ≡ true → k ≤ m → good_to t limit k ≡ true
    good_shorter m k g l = (all_good k).1 (λ j h. (all_good m).0 g j (omega arith))

    pub good_more : (m : ℕ) → good_to t limit m ≡ true → good_at t limit m ≡ true → good_to t limit (suc m) ≡ true
    unfolding good_to
    good_more m g h = and_from _ _ h g

    -- one bad record is enough
    pub good_not : (m k : ℕ) → k < m → good_at t limit k ≡ false → good_to t limit m ≡ false
    good_not m k l b = ⊎_elim (λ g. let z : ⊥ = both_ways _ b ((all_good m).0 g k l) in elim z [ ]) (λ g. g) (cases_Bool (good_to t limit m))

    -- of good records the first are used, and the rest are not
    pub first_used : (m : ℕ) → good_to t limit m ≡ true → (k : ℕ) → k < used_to t m → t.used k ≡ true
    first_used zero g k l = let z : ⊥ = omega (arith, used_none) in elim z [ ]
    first_used (suc m) g k l =
        let h = good_shorter (suc m) m g (omega arith) in
        ⊎_elim
        (λ u.
        let f = (good_used m ((all_good (suc m)).0 g m (omega arith)) u).0 in
        ⊎_elim
        (λ q. subst (λ (x : ℕ). t.used x ≡ true) (sym q) u)
        (λ q. first_used m h k (omega (arith, used_yes m u)))
        (cases_eq k m))
        (λ u. first_used m h k (omega (arith, used_not m u)))
        (cases_Bool (t.used m))

    pub rest_unused : (m : ℕ) → good_to t limit m ≡ true → (k : ℕ) → used_to t m ≤ k → k < m → t.used k ≡ false
    rest_unused zero g k l h = let z : ⊥ = omega arith in elim z [ ]
    rest_unused (suc m) g k l h =
        ⊎_elim
        (λ u.
        let f = (good_used m ((all_good (suc m)).0 g m (omega arith)) u).0 in
        let z : ⊥ = omega (arith, used_yes m u) in
        elim z [ ])
        (λ u. ⊎_elim
        (λ q. subst (λ (x : ℕ). t.used x ≡ false) (sym q) u)
        (λ q. rest_unused m (good_shorter (suc m) m g (omega arith)) k (omega (arith, used_not m u)) (omega arith))
        (cases_eq k m))
        (cases_Bool (t.used m))

    pub slot_past : (n m : ℕ) → good_to t limit m ≡ true → limit ≤ n → slot_to t n m ≡ 0
    slot_past n m g l =
        ⊎_elim
        (λ z. z)
        (λ p.
        let r = slot_found n m p.0 p.1 in
        let q = (good_used p.0 ((all_good m).0 g p.0 r.0) r.1).1 in
        let z : ⊥ = omega (arith, q, r.2) in
        elim z [ ])
        (zero_or (slot_to t n m))

    -- the rules, each for itself
    pub good_rules : (m : ℕ) → good_to t limit m ≡ true → Good t limit m
    good_rules m g =
        let at : (k : ℕ) → k < m → good_at t limit k ≡ true = (all_good m).0 g in
        let order : (j k : ℕ) → j < k → k < m → t.used k ≡ true → t.used j ≡ true = λ j k l h u. first_used k (good_shorter m k g (omega arith)) j (omega (arith, (good_used k (at k h) u).0)) in
        record {
          marks = λ k l u. good_free k (at k l) u;
          order = order;
          below = λ k l u. (good_used k (at k l) u).1;
          apart = λ j k l h u q. slot_none (t.number k) k (good_used k (at k h) u).2 j l (order j k l h u) q;
        }

    pub rules_good : (m : ℕ) → Good t limit m → good_to t limit m ≡ true
    rules_good m g =
        (all_good m).1
        (λ k l. ⊎_elim
        (λ u. used_good k u
        (used_full k (λ j h. g.order j k h l u))
        (g.below k l u)
        (⊎_elim
        (λ z. z)
        (λ p.
        let r = slot_found (t.number k) k p.0 p.1 in
        let z : ⊥ = g.apart p.0 k r.0 l u r.2 in
        elim z [ ])
        (zero_or (slot_to t (t.number k) k))))
        (λ u. free_good k u (g.marks k l u))
        (cases_Bool (t.used k)))
