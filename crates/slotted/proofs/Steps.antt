-- One record more: what the scan says of the records so far.
use Rattle.std.proofs.Common.{◌≡◌, ℕ, suc, ◌+◌, ◌<◌, true, false, List, length, get_or, set, Some, None, Option, is_some, sym, refl, ap, ◌∙◌, subst, ⊎_elim, add-one, arith}
use Rattle.slotted.proofs.Tables.{free_bad, free_good, good_more, good_not, record_none, slot_here, slot_other, slot_unused, used_bad, used_good, used_none, used_not, used_yes}
use Rattle.slotted.specs.Table.{Table, Listed, Scanned, good_at, good_to, record_of, slot_to, used_to}
use Rattle.std.proofs.lemmas.List.{get_or-set_other, get_or-set_same, length-set}
use Rattle.std.proofs.lemmas.Bool.{cases_eq}

pub scan_none : (t : Table) (index : List (Option ℕ)) → Listed t 0 index → Scanned t 0 index (Some 0)
unfolding good_to
scan_none t index listed = (refl, sym (used_none t), listed)

module _ (t : Table) (k : ℕ) (index : List (Option ℕ)) (used : ℕ) (scanned : Scanned t k index (Some used)) where
  next : suc k ≡ k + 1
  next = sym (add-one k)

  more : (e : List (Option ℕ)) → length e ≡ length index → good_at t (length e) k ≡ true → good_to t (length e) (k + 1) ≡ true
  more e long h = ap (good_to t (length e)) (add-one k) ∙ good_more t (length e) k (subst (λ (x : ℕ). good_to t x k ≡ true) (sym long) scanned.0) h

  pub scan_free : t.used k ≡ false → t.free k ≡ true → Scanned t (k + 1) index (Some used)
  scan_free u f = (
    more index refl (free_good t (length index) k u f),
    scanned.1 ∙ sym (used_not t k u) ∙ ap (used_to t) next,
    λ n h. scanned.2 n h ∙ ap record_of (sym (slot_unused t n k u) ∙ ap (slot_to t n) next),
  )

  pub scan_used : (n : ℕ) → t.used k ≡ true → t.number k ≡ n → used ≡ k → n < length index → is_some (get_or index n None) ≡ false → Scanned t (k + 1) (set index n (Some k)) (Some (used + 1))
  scan_used n u e f l z =
      let long = length-set index n (Some k) in
      let none : slot_to t (t.number k) k ≡ 0 = ap (λ (x : ℕ). slot_to t x k) e ∙ record_none _ (ap is_some (sym (scanned.2 n l)) ∙ z) in (
        more (set index n (Some k)) long (used_good t _ k u (sym scanned.1 ∙ f) (omega arith) none),
        (let r = used_yes t k u in let q : used + 1 ≡ used_to t (suc k) = omega (arith, scanned.1) in q ∙ ap (used_to t) next),
        λ m h.
            let inside : m < length index = omega arith in
            ⊎_elim
            (λ q.
            ap (λ (x : ℕ). get_or (set index n (Some k)) x None) q
            ∙ get_or-set_same index n (Some k) None l
            ∙ ap record_of (sym (slot_here t m k u (e ∙ sym q)) ∙ ap (slot_to t m) next))
            (λ q.
            get_or-set_other index n m (Some k) None q
            ∙ scanned.2 m inside
            ∙ ap record_of (sym (slot_other t m k (λ a. q (sym a ∙ e))) ∙ ap (slot_to t m) next))
            (cases_eq m n),
      )

  -- a record that is not good
  module _ (many : ℕ) (inside : k < many) where
    pub scan_unmarked : t.used k ≡ false → t.free k ≡ false → Scanned t many index None
    scan_unmarked u f = good_not t (length index) many k inside (free_bad t (length index) k u f)

    pub scan_bad : (n : ℕ) → t.used k ≡ true → t.number k ≡ n → (used ≡ k → n < length index → is_some (get_or index n None) ≡ false → ⊥) → Scanned t many index None
    scan_bad n u e h =
        good_not t (length index) many k inside
        (used_bad t (length index) k u
        (λ p.
        let low : n < length index = omega (arith, p.1, e) in
        h (scanned.1 ∙ p.0) low (ap is_some (scanned.2 n low ∙ ap record_of (ap (λ (x : ℕ). slot_to t x k) (sym e) ∙ p.2)))))
