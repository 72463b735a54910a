-- What bytes mean, by cases of whether they are well-formed.
use Rattle.std.proofs.Common.{◌≡◌, ℕ, suc, ◌+◌, ◌-◌, ◌*◌, ◌<◌, ◌≤◌, Bool, true, false, ◌&&◌, eqb, leb, List, length, take, drop, replicate, Some, None, is_some, Decides, sym, refl, ap, ◌∙◌, ⊎_elim, arith}
use Rattle.devices.specs.Meaning.{Sound, Zeroed}
use Rattle.slotted.proofs.Tables.{good_rules, record_none, record_some, some_record, rules_good, slot_found, slot_past, zero_or}
use Rattle.slotted.specs.Image.{WellFormed, block_in, block_of, held_in, left_in, limit_in, meaning_of, record_in, slot_in, used_in, well_formed}
use Rattle.slotted.specs.Records.{block_at, records, table_of}
use Rattle.slotted.specs.Table.{good_to, slot_to, used_to}
use Rattle.std.proofs.lemmas.List.{length-drop, length-replicate, length-take}
use Rattle.std.proofs.lemmas.Bool.{and_from, and_parts, both_ways, cases_Bool, cases_lt, cond-false, cond-true, eq-eqb, eqb-true, le-leb, leb-true, ne_eqb, not_from_false, not_from_true, not-true, not-false}

pub never : {P : Type 0} (b : Bool) → b ≡ true → b ≡ false → P
never b t f = let z : ⊥ = both_ways b f t in elim z [ ]

module _ (s : List ℕ) where
  pub formed_parts : well_formed s ≡ true → (1030 * records s ≡ length s) × (records s ≤ 65544) × (good_to (table_of s) 65544 (records s) ≡ true)
  unfolding well_formed
  formed_parts w =
      let p = and_parts (eqb (1030 * records s) (length s)) (leb (records s) 65544 && good_to (table_of s) 65544 (records s)) w in
      let q = and_parts (leb (records s) 65544) (good_to (table_of s) 65544 (records s)) p.1 in
      (eqb-true _ _ p.0, leb-true _ _ q.0, q.1)

  pub formed_from : 1030 * records s ≡ length s → records s ≤ 65544 → good_to (table_of s) 65544 (records s) ≡ true → well_formed s ≡ true
  unfolding well_formed
  formed_from a b c = and_from _ _ (eq-eqb _ _ a) (and_from _ _ (le-leb _ _ b) c)

  pub formed_not : ((1030 * records s ≡ length s) × (records s ≤ 65544) × (good_to (table_of s) 65544 (records s) ≡ true) → ⊥) → well_formed s ≡ false
  formed_not f = ⊎_elim (λ w. let z : ⊥ = f (formed_parts w) in elim z [ ]) (λ w. w) (cases_Bool (well_formed s))

  pub formed_tells : Decides (well_formed s) (WellFormed s)
  formed_tells = (
    λ w. let p = formed_parts w in record { whole = p.0; few = p.1; good = good_rules (table_of s) 65544 (records s) p.2 },
    λ r. formed_from r.whole r.few (rules_good (table_of s) 65544 (records s) r.good),
  )

  pub slot_yes : well_formed s ≡ true → (n : ℕ) → slot_in s n ≡ slot_to (table_of s) n (records s)
  unfolding slot_in
  slot_yes w n = cond-true (well_formed s) (slot_to (table_of s) n (records s)) 0 w

  pub slot_not : well_formed s ≡ false → (n : ℕ) → slot_in s n ≡ 0
  unfolding slot_in
  slot_not w n = cond-false (well_formed s) (slot_to (table_of s) n (records s)) 0 w

  pub used_formed : well_formed s ≡ true → used_in s ≡ used_to (table_of s) (records s)
  unfolding used_in
  used_formed w = cond-true (well_formed s) (used_to (table_of s) (records s)) 0 w

  pub used_out : well_formed s ≡ false → used_in s ≡ 0
  unfolding used_in
  used_out w = cond-false (well_formed s) (used_to (table_of s) (records s)) 0 w

  pub left_formed : well_formed s ≡ true → left_in s ≡ records s - used_in s
  unfolding left_in
  left_formed w = cond-true (well_formed s) (records s - used_in s) 0 w

  pub left_out : well_formed s ≡ false → left_in s ≡ 0
  unfolding left_in
  left_out w = cond-false (well_formed s) (records s - used_in s) 0 w

  pub limit_formed : well_formed s ≡ true → limit_in s ≡ 65544
  unfolding limit_in
  limit_formed w = cond-true (well_formed s) 65544 0 w

  pub limit_out : well_formed s ≡ false → limit_in s ≡ 0
  unfolding limit_in
  limit_out w = cond-false (well_formed s) 65544 0 w

  pub limit_le : limit_in s ≤ 65544
  limit_le = ⊎_elim (λ w. omega (arith, limit_formed w)) (λ w. omega (arith, limit_out w)) (cases_Bool (well_formed s))

  -- a number below the limit is one of well-formed bytes
  pub below_formed : (n : ℕ) → n < limit_in s → well_formed s ≡ true
  below_formed n l = ⊎_elim (λ w. w) (λ w. let z : ⊥ = omega (arith, limit_out w) in elim z [ ]) (cases_Bool (well_formed s))

  -- where a record is left, the first that is not used is inside
  pub room_left : 0 < left_in s → (1030 * used_in s + 1030 ≤ length s) × (used_in s < 65544)
  room_left free =
      ⊎_elim
      (λ w. let p = formed_parts w in (omega (arith, left_formed w, p.0), omega (arith, left_formed w, p.1)))
      (λ w. absurd (omega (arith, left_out w)))
      (cases_Bool (well_formed s))

  pub past_limit : (n : ℕ) → limit_in s ≤ n → slot_in s n ≡ 0
  past_limit n l =
      ⊎_elim
      (λ w. slot_yes w n ∙ slot_past (table_of s) 65544 n (records s) (formed_parts w).2 (omega (arith, limit_formed w)))
      (λ w. slot_not w n)
      (cases_Bool (well_formed s))

  -- the record of a slot
  pub slot_inside : (n k : ℕ) → slot_in s n ≡ suc k → 1030 * k + 1030 ≤ length s
  slot_inside n k e =
      ⊎_elim
      (λ w.
      let r = slot_found (table_of s) n (records s) k (sym (slot_yes w n) ∙ e) in
      omega (arith, r.0, (formed_parts w).0))
      (λ w. let z : ⊥ = omega (arith, slot_not w n) in elim z [ ])
      (cases_Bool (well_formed s))

  pub record_inside : (n k : ℕ) → record_in s n ≡ Some k → 1030 * k + 1030 ≤ length s
  record_inside n k e = slot_inside n k (record_some (slot_in s n) k e)

  pub held_record : (n : ℕ) → is_some (record_in s n) ≡ held_in s n
  held_record n = some_record (slot_in s n)

  pub held_slot : (n : ℕ) → held_in s n ≡ true → slot_in s n ≡ 0 → ⊥
  held_slot n h e = both_ways (eqb (slot_in s n) 0) (not-true _ h) (eq-eqb (slot_in s n) 0 e)

  pub unheld_slot : (n : ℕ) → held_in s n ≡ false → slot_in s n ≡ 0
  unheld_slot n h = eqb-true (slot_in s n) 0 (not-false (eqb (slot_in s n) 0) h)

  pub slot_held : (n : ℕ) → (slot_in s n ≡ 0 → ⊥) → held_in s n ≡ true
  slot_held n h = not_from_false (eqb (slot_in s n) 0) (ne_eqb (slot_in s n) 0 h)

  pub slot_unheld : (n : ℕ) → slot_in s n ≡ 0 → held_in s n ≡ false
  slot_unheld n h = not_from_true (eqb (slot_in s n) 0) (eq-eqb (slot_in s n) 0 h)

  pub held_inside : (n : ℕ) → held_in s n ≡ true → n < limit_in s
  held_inside n h = ⊎_elim (λ e. e) (λ e. let z : ⊥ = held_slot n h (past_limit n e) in elim z [ ]) (cases_lt n (limit_in s))

  pub block_none : block_of s 0 ≡ replicate 1024 0
  unfolding block_of
  block_none = refl

  pub block_some : (k : ℕ) → block_of s (suc k) ≡ take 1024 (drop (1030 * k + 6) s)
  unfolding block_of block_at
  block_some k = refl

  pub record_block : (n k : ℕ) → record_in s n ≡ Some k → block_in s n ≡ take 1024 (drop (1030 * k + 6) s)
  record_block n k e = ap (block_of s) (record_some (slot_in s n) k e) ∙ block_some k

  pub no_block : (n : ℕ) → record_in s n ≡ None → block_in s n ≡ replicate 1024 0
  no_block n e = ap (block_of s) (record_none (slot_in s n) (ap is_some e)) ∙ block_none

  pub block_whole : (n : ℕ) → length (block_in s n) ≡ 1024
  block_whole n =
      ⊎_elim
      (λ e. ap (λ (x : ℕ). length (block_of s x)) e ∙ ap length block_none ∙ length-replicate {A = ℕ} 1024 0)
      (λ p.
      let inside = slot_inside n p.0 p.1 in
      ap (λ (x : ℕ). length (block_of s x)) p.1 ∙ ap length (block_some p.0) ∙ simp (length-take, length-drop) (omega arith))
      (zero_or (slot_in s n))

  pub sound_of : Sound (meaning_of s)
  sound_of = record { bounded = limit_le; inside = held_inside; whole = λ n _. block_whole n; spent = λ n. refl }

  pub zeroed_of : Zeroed (meaning_of s)
  zeroed_of n l h = ap (block_of s) (unheld_slot n h) ∙ block_none
