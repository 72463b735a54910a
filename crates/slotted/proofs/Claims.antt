-- A table in which the first record that was not used becomes used, with a new number.
use Rattle.std.proofs.Common.{◌≡◌, ℕ, zero, suc, ◌+◌, ◌<◌, ◌≤◌, true, false, sym, ap, ◌∙◌, subst, ⊎_elim, arith}
use Rattle.slotted.proofs.Tables.{all_good, first_used, free_good, good_free, good_used, rest_unused, slot_here, slot_other, slot_shorter, slot_start, slot_unused, used_full, used_good, used_not, used_yes}
use Rattle.slotted.specs.Table.{Table, good_at, good_to, slot_to, used_to}
use Rattle.std.proofs.lemmas.Bool.{cases_eq, cases_order}

-- t with another record at u
pub record Changed (t e : Table) (u n : ℕ) : Type 0 where
  pub used_here : e.used u ≡ true
  pub number_here : e.number u ≡ n
  pub used_there : (k : ℕ) → (k ≡ u → ⊥) → e.used k ≡ t.used k
  pub free_there : (k : ℕ) → (k ≡ u → ⊥) → e.free k ≡ t.free k
  pub number_there : (k : ℕ) → (k ≡ u → ⊥) → e.number k ≡ t.number k

module _ (t e : Table) (u n limit many : ℕ) (ch : Changed t e u n) (good : good_to t limit many ≡ true) (first : used_to t many ≡ u) (room : u < many) (none : slot_to t n many ≡ 0) (low : n < limit) where
  was_used : (k : ℕ) → k < u → t.used k ≡ true
  was_used k l = first_used t limit many good k (omega arith)

  was_not : (k : ℕ) → u ≤ k → k < many → t.used k ≡ false
  was_not k l h = rest_unused t limit many good k (omega arith) h

  is_not : (k : ℕ) → u < k → k < many → e.used k ≡ false
  is_not k l h = ch.used_there k (λ q. omega arith) ∙ was_not k (omega arith) h

  full : used_to t u ≡ u
  full = used_full t u was_used

  used_below : (k : ℕ) → k ≤ u → used_to e k ≡ k
  used_below k l = used_full e k (λ j h. ch.used_there j (λ q. omega arith) ∙ was_used j (omega arith))

  pub used_above : (k : ℕ) → u < k → k ≤ many → used_to e k ≡ u + 1
  used_above zero l h = let z : ⊥ = omega arith in elim z [ ]
  used_above (suc k) l h =
      ⊎_elim
      (λ q.
      let v : e.used k ≡ true = subst (λ (x : ℕ). e.used x ≡ true) (sym q) ch.used_here in
      omega (arith, used_yes e k v, used_below k (omega arith)))
      (λ q. omega (arith, used_not e k (is_not k (omega arith) (omega arith)), used_above k (omega arith) (omega arith)))
      (cases_eq k u)

  -- the new number's slot
  slot_below : (x k : ℕ) → k ≤ u → slot_to e x k ≡ slot_to t x k
  slot_below x zero l = slot_start e x ∙ sym (slot_start t x)
  slot_below x (suc k) l =
      let ne : k ≡ u → ⊥ = λ q. omega arith in
      let v : t.used k ≡ true = was_used k (omega arith) in
      let w : e.used k ≡ true = ch.used_there k ne ∙ v in
      let r = ch.number_there k ne in
      ⊎_elim
      (λ q. slot_here e x k w (r ∙ q) ∙ sym (slot_here t x k v q))
      (λ q. slot_other e x k (λ a. q (sym r ∙ a)) ∙ slot_below x k (omega arith) ∙ sym (slot_other t x k q))
      (cases_eq (t.number k) x)

  pub slot_new : (k : ℕ) → u < k → k ≤ many → slot_to e n k ≡ suc u
  slot_new zero l h = let z : ⊥ = omega arith in elim z [ ]
  slot_new (suc k) l h =
      ⊎_elim
      (λ q.
      slot_here e n k (subst (λ (x : ℕ). e.used x ≡ true) (sym q) ch.used_here) (subst (λ (x : ℕ). e.number x ≡ n) (sym q) ch.number_here)
      ∙ ap suc q)
      (λ q. slot_unused e n k (is_not k (omega arith) (omega arith)) ∙ slot_new k (omega arith) (omega arith))
      (cases_eq k u)

  -- that of another
  pub slot_old : (x : ℕ) → (x ≡ n → ⊥) → (k : ℕ) → k ≤ many → slot_to e x k ≡ slot_to t x k
  slot_old x ne zero h = slot_start e x ∙ sym (slot_start t x)
  slot_old x ne (suc k) h =
      let ih = slot_old x ne k (omega arith) in
      ⊎_elim
      (λ q.
      slot_other e x k (λ a. ne (sym a ∙ subst (λ (y : ℕ). e.number y ≡ n) (sym q) ch.number_here))
      ∙ ih
      ∙ sym (slot_unused t x k (was_not k (omega arith) (omega arith))))
      (⊎_elim
      (λ q. slot_below x (suc k) q)
      (λ q. slot_unused e x k (is_not k q (omega arith)) ∙ ih ∙ sym (slot_unused t x k (was_not k (omega arith) (omega arith)))))
      (cases_order k u)

  pub good_after : good_to e limit many ≡ true
  good_after =
      (all_good e limit many).1
      (λ k h. ⊎_elim
      (λ q.
      subst (λ (x : ℕ). good_at e limit x ≡ true) (sym q)
      (used_good e limit u ch.used_here (used_below u (omega arith)) (omega (arith, ch.number_here))
      (ap (λ (x : ℕ). slot_to e x u) ch.number_here ∙ slot_below n u (omega arith) ∙ slot_shorter t n many u none (omega arith))))
      (⊎_elim
      (λ q.
      let ne : k ≡ u → ⊥ = λ a. omega arith in
      let v = was_used k q in
      let g = good_used t limit k ((all_good t limit many).0 good k h) v in
      let r = ch.number_there k ne in
      used_good e limit k (ch.used_there k ne ∙ v) (used_below k (omega arith)) (omega (arith, r, g.1))
      (ap (λ (x : ℕ). slot_to e x k) r ∙ slot_below (t.number k) k (omega arith) ∙ g.2))
      (λ q.
      free_good e limit k (is_not k q h)
      (ch.free_there k (λ a. omega arith) ∙ good_free t limit k ((all_good t limit many).0 good k h) (was_not k (omega arith) h))))
      (cases_order k u))
