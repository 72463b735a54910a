-- A block written over that of record k.
use Rattle.std.proofs.Common.{◌≡◌, ℕ, suc, ◌+◌, ◌*◌, ◌<◌, ◌≤◌, true, eqb, List, length, get_or, take, drop, sym, refl, ap, ◌∙◌, inl, inr, ⊎_elim, arith}
use mathlib.Core.Path.{fun_ext}
use Rattle.devices.specs.Meaning as meaning
use Rattle.devices.specs.Step.{Wrote}
use Rattle.slotted.proofs.Images.{block_none, block_some, held_inside, slot_held, slot_not, slot_yes}
use Rattle.slotted.proofs.Puts.{length_put, part_apart, part_within, put_apart}
use Rattle.slotted.proofs.Same.{same_held, same_left, same_limit, same_slot, same_table}
use Rattle.slotted.proofs.Tables.{slot_found, zero_or}
use Rattle.devices.specs.Bytes.{put}
use Rattle.slotted.specs.Image.{block_in, block_of, held_in, meaning_of, slot_in, well_formed}
use Rattle.slotted.specs.Records.{free_at, number_at, records, table_of, used_at}
use Rattle.std.proofs.lemmas.List.{take_all}
use Rattle.std.proofs.lemmas.Bool.{cases_Bool, cases_eq, cases_lt, cond-false, cond-true, eq-eqb, ne_eqb}

-- two slots of one record have one number
pub slot_apart : (s : List ℕ) (m n k : ℕ) → slot_in s m ≡ suc k → slot_in s n ≡ suc k → m ≡ n
slot_apart s m n k a b =
    ⊎_elim
    (λ w.
    let p = slot_found (table_of s) m (records s) k (sym (slot_yes s w m) ∙ a) in
    let q = slot_found (table_of s) n (records s) k (sym (slot_yes s w n) ∙ b) in
    sym p.2 ∙ q.2)
    (λ w. let z : ⊥ = omega (arith, slot_not s w m) in elim z [ ])
    (cases_Bool (well_formed s))

-- what a record says is in its first six bytes
pub head_same : (s t : List ℕ) (k : ℕ) → ((p i : ℕ) → i < 6 → p ≡ 1030 * k + i → get_or t p 0 ≡ get_or s p 0) → (used_at t k ≡ used_at s k) × (free_at t k ≡ free_at s k) × (number_at t k ≡ number_at s k)
unfolding used_at free_at number_at
head_same s t k h =
    let b0 = h (1030 * k) 0 (omega arith) (omega arith) in
    let b1 = h (1030 * k + 1) 1 (omega arith) refl in
    let b2 = h (1030 * k + 2) 2 (omega arith) refl in
    let b3 = h (1030 * k + 2 + 1) 3 (omega arith) (omega arith) in
    let b4 = h (1030 * k + 2 + 2) 4 (omega arith) (omega arith) in
    let b5 = h (1030 * k + 2 + 3) 5 (omega arith) (omega arith) in
    (cc, cc, cc)

module _ (s : List ℕ) (k : ℕ) (bs : List ℕ) (full : length bs ≡ 1024) (inside : 1030 * k + 1030 ≤ length s) where
  abbrev new : List ℕ
  new = put s (1030 * k + 6) bs

  room : 1030 * k + 6 + length bs ≤ length s
  room = omega arith

  head : (j p i : ℕ) → i < 6 → p ≡ 1030 * j + i → get_or new p 0 ≡ get_or s p 0
  head j p i l e = put_apart s (1030 * k + 6) bs room p 0 (⊎_elim (λ q. inr (omega arith)) (λ q. inl (omega arith)) (cases_lt k j))

  says : (j : ℕ) → (used_at new j ≡ used_at s j) × (free_at new j ≡ free_at s j) × (number_at new j ≡ number_at s j)
  says j = head_same s new j (head j)

  pub write_length : length new ≡ length s
  write_length = length_put s (1030 * k + 6) bs room

  pub write_table : table_of new ≡ table_of s
  write_table = same_table (table_of s) (table_of new) (λ j. (says j).0) (λ j. (says j).1) (λ j. (says j).2)

  block_here : block_of new (suc k) ≡ bs
  block_here =
      let z : 1030 * k + 6 ≡ 1030 * k + 6 + 0 = omega arith in
      block_some new k
      ∙ ap (λ (i : ℕ). take 1024 (drop i new)) z
      ∙ part_within s (1030 * k + 6) bs room 1024 0 (omega arith)
      ∙ take_all 1024 bs (omega arith)

  block_there : (j : ℕ) → (j ≡ k → ⊥) → block_of new (suc j) ≡ block_of s (suc j)
  block_there j ne =
      block_some new j
      ∙ part_apart s (1030 * k + 6) bs room 1024 (1030 * j + 6) (⊎_elim (λ q. inr (omega arith)) (λ q. inl (let r : j < k = grind arith in omega arith)) (cases_lt k j))
      ∙ sym (block_some s j)

  module _ (n : ℕ) (slot : slot_in s n ≡ suc k) where
    block_at : (m : ℕ) → block_in new m ≡ meaning.put (block_in s) n bs m
    block_at m =
        let e = same_slot s new write_length write_table m in
        ⊎_elim
        (λ q.
        ap (block_of new) (e ∙ ap (slot_in s) q ∙ slot) ∙ block_here ∙ sym (cond-true (eqb m n) bs (block_in s m) (eq-eqb m n q)))
        (λ q.
        ap (block_of new) e
        ∙ ⊎_elim
        (λ z. ap (block_of new) z ∙ block_none new ∙ sym (block_none s) ∙ sym (ap (block_of s) z))
        (λ p. ap (block_of new) p.1 ∙ block_there p.0 (λ a. q (slot_apart s m n k (p.1 ∙ ap suc a) slot)) ∙ sym (ap (block_of s) p.1))
        (zero_or (slot_in s m))
        ∙ sym (cond-false (eqb m n) bs (block_in s m) (ne_eqb m n q)))
        (cases_eq m n)

    pub wrote : Wrote (meaning_of s) n bs (meaning_of new)
    wrote =
        let held : held_in s n ≡ true = slot_held s n (λ z. omega arith) in
        record {
          stays = record { limit = same_limit s new write_length write_table; layer = refl; spent = refl; for_good = λ h. h };
          buffer = full;
          range = held_inside s n held;
          was_held = held;
          held = same_held s new write_length write_table;
          left = same_left s new write_length write_table;
          block = fun_ext block_at;
        }
