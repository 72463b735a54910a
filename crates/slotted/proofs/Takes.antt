-- The first free record, used up by a claim.
use Rattle.std.proofs.Common.{◌≡◌, ℕ, suc, ◌+◌, ◌-◌, ◌*◌, ◌/◌, ◌%◌, ◌<◌, ◌≤◌, true, false, not, eqb, ◌⊎◌, List, length, get_or, take, drop, replicate, sym, refl, ap, ◌∙◌, subst, inl, inr, ⊎_elim, arith}
use mathlib.Core.Path.{fun_ext}
use Rattle.devices.specs.Meaning as meaning
use Rattle.devices.specs.Step.{Claimed}
use Rattle.slotted.proofs.Claims.{Changed, good_after, slot_new, slot_old, used_above}
use Rattle.slotted.proofs.Images.{below_formed, block_none, block_some, formed_from, formed_parts, left_formed, limit_formed, never, slot_held, slot_unheld, slot_yes, used_formed}
use Rattle.slotted.proofs.Puts.{length_put, part_apart, part_within, put_apart, put_in}
use Rattle.slotted.proofs.Tables.{all_good, first_used, good_free, rest_unused, slot_found, zero_or}
use Rattle.slotted.proofs.Writes.{head_same}
use Rattle.slotted.specs.Account.{FirstFree}
use Rattle.devices.specs.Bytes.{put}
use Rattle.slotted.specs.Image.{block_in, block_of, held_in, left_in, limit_in, meaning_of, slot_in, used_in, well_formed}
use Rattle.slotted.specs.Records.{fresh, free_at, number_at, records, table_of, used_at}
use Rattle.slotted.specs.Table.{good_to, slot_to, used_to}
use Rattle.std.proofs.lemmas.List.{length-replicate, take_all}
use Rattle.std.proofs.lemmas.Nat.{from_le_bytes-to_le_bytes_4}
use Rattle.std.proofs.lemmas.Bool.{and_from, both_ways, cases_eq, cond-false, cond-true, eq-eqb, ne_eqb}

pub fresh_length : (n : ℕ) → length (fresh n) ≡ 1030
unfolding fresh
fresh_length n = let r = length-replicate {A = ℕ} 1024 0 in omega arith

rest : (n : ℕ) → drop 6 (fresh n) ≡ replicate 1024 0
unfolding fresh
rest n = refl

module _ (s : List ℕ) (n : ℕ) (low : n < limit_in s) (none : slot_in s n ≡ 0) (free : 0 < left_in s) where
  abbrev at : ℕ
  at = used_in s

  abbrev new : List ℕ
  new = put s (1030 * at) (fresh n)

  formed : well_formed s ≡ true
  formed = below_formed s n low

  below : n < 65544
  below = omega (arith, limit_formed s formed)

  parts : (1030 * records s ≡ length s) × (records s ≤ 65544) × (good_to (table_of s) 65544 (records s) ≡ true)
  parts = formed_parts s formed

  pub at_inside : at < records s
  at_inside = omega (arith, left_formed s formed)

  room : 1030 * at + length (fresh n) ≤ length s
  room = omega (arith, fresh_length n, at_inside, parts.0)

  first : used_to (table_of s) (records s) ≡ at
  first = sym (used_formed s formed)

  unused : used_at s at ≡ false
  unused = rest_unused (table_of s) 65544 (records s) parts.2 at (omega (arith, first)) at_inside

  pub first_free : FirstFree s at
  first_free = record {
    inside = at_inside;
    before = λ j l. first_used (table_of s) 65544 (records s) parts.2 j (omega (arith, first));
    here = good_free (table_of s) 65544 at ((all_good (table_of s) 65544 (records s)).0 parts.2 at at_inside) unused;
  }

  byte : (p i : ℕ) → i < 6 → p ≡ 1030 * at + i → get_or new p 0 ≡ get_or (fresh n) i 0
  byte p i l e = ap (λ (x : ℕ). get_or new x 0) e ∙ put_in s (1030 * at) (fresh n) room i 0 (omega (arith, fresh_length n))

  used_here : used_at new at ≡ true
  unfolding used_at fresh
  used_here =
      and_from _ _
      (eq-eqb _ _ (byte (1030 * at) 0 (omega arith) (omega arith)))
      (eq-eqb _ _ (byte (1030 * at + 1) 1 (omega arith) refl))

  number_here : number_at new at ≡ n
  unfolding number_at fresh
  number_here =
      let b2 : get_or new (1030 * at + 2) 0 ≡ n % 256 = byte (1030 * at + 2) 2 (omega arith) refl in
      let b3 : get_or new (1030 * at + 2 + 1) 0 ≡ n / 256 % 256 = byte (1030 * at + 2 + 1) 3 (omega arith) (omega arith) in
      let b4 : get_or new (1030 * at + 2 + 2) 0 ≡ n / 65536 % 256 = byte (1030 * at + 2 + 2) 4 (omega arith) (omega arith) in
      let b5 : get_or new (1030 * at + 2 + 3) 0 ≡ n / 16777216 % 256 = byte (1030 * at + 2 + 3) 5 (omega arith) (omega arith) in
      let all = from_le_bytes-to_le_bytes_4 n (omega (arith, below)) in
      omega arith

  apart : (k : ℕ) → (k ≡ at → ⊥) → (k < at) ⊎ (at < k)
  apart k ne = grind arith

  says : (k : ℕ) → (k ≡ at → ⊥) → (used_at new k ≡ used_at s k) × (free_at new k ≡ free_at s k) × (number_at new k ≡ number_at s k)
  says k ne =
      head_same s new k
      (λ p i l e. put_apart s (1030 * at) (fresh n) room p 0 (⊎_elim (λ q. inl (omega arith)) (λ q. inr (omega (arith, fresh_length n))) (apart k ne)))

  changed : Changed (table_of s) (table_of new) at n
  changed = record {
    used_here = used_here;
    number_here = number_here;
    used_there = λ k ne. (says k ne).0;
    free_there = λ k ne. (says k ne).1;
    number_there = λ k ne. (says k ne).2;
  }

  pub take_length : length new ≡ length s
  take_length = length_put s (1030 * at) (fresh n) room

  same_records : records new ≡ records s
  same_records = ap (λ (l : ℕ). l / 1030) take_length

  nowhere : slot_to (table_of s) n (records s) ≡ 0
  nowhere = sym (slot_yes s formed n) ∙ none

  good_new : good_to (table_of new) 65544 (records new) ≡ true
  good_new = ap (good_to (table_of new) 65544) same_records ∙ good_after (table_of s) (table_of new) at n 65544 (records s) changed parts.2 first at_inside nowhere below

  pub take_formed : well_formed new ≡ true
  take_formed = formed_from new (omega (arith, same_records, take_length, parts.0)) (omega (arith, same_records, parts.1)) good_new

  pub take_limit : limit_in new ≡ limit_in s
  take_limit = limit_formed new take_formed ∙ sym (limit_formed s formed)

  pub take_used : used_in new ≡ used_in s + 1
  take_used = used_formed new take_formed ∙ ap (used_to (table_of new)) same_records ∙ used_above (table_of s) (table_of new) at n 65544 (records s) changed parts.2 first at_inside nowhere below (records s) at_inside (omega arith)

  pub take_left : left_in new ≡ left_in s - 1
  take_left = omega (arith, left_formed new take_formed, left_formed s formed, take_used, same_records)

  pub slot_taken : slot_in new n ≡ suc at
  slot_taken = slot_yes new take_formed n ∙ ap (slot_to (table_of new) n) same_records ∙ slot_new (table_of s) (table_of new) at n 65544 (records s) changed parts.2 first at_inside nowhere below (records s) at_inside (omega arith)

  pub slot_kept : (m : ℕ) → (m ≡ n → ⊥) → slot_in new m ≡ slot_in s m
  slot_kept m ne = slot_yes new take_formed m ∙ ap (slot_to (table_of new) m) same_records ∙ slot_old (table_of s) (table_of new) at n 65544 (records s) changed parts.2 first at_inside nowhere below m ne (records s) (omega arith) ∙ sym (slot_yes s formed m)

  block_here : block_of new (suc at) ≡ replicate 1024 0
  block_here =
      block_some new at
      ∙ part_within s (1030 * at) (fresh n) room 1024 6 (omega (arith, fresh_length n))
      ∙ ap (take 1024) (rest n)
      ∙ take_all 1024 (replicate 1024 0) (omega (arith, length-replicate {A = ℕ} 1024 0))

  block_there : (k : ℕ) → (k ≡ at → ⊥) → block_of new (suc k) ≡ block_of s (suc k)
  block_there k ne =
      block_some new k
      ∙ part_apart s (1030 * at) (fresh n) room 1024 (1030 * k + 6) (⊎_elim (λ q. inl (omega arith)) (λ q. inr (omega (arith, fresh_length n))) (apart k ne))
      ∙ sym (block_some s k)

  -- the record of a slot is not the one taken
  elsewhere : (m k : ℕ) → slot_in s m ≡ suc k → k ≡ at → ⊥
  elsewhere m k e q = both_ways (used_at s at) unused (subst (λ (x : ℕ). used_at s x ≡ true) q (slot_found (table_of s) m (records s) k (sym (slot_yes s formed m) ∙ e)).1)

  block_kept : (m : ℕ) → block_in new m ≡ block_in s m
  block_kept m =
      ⊎_elim
      (λ q. ap (block_of new) (ap (slot_in new) q ∙ slot_taken) ∙ block_here ∙ sym (block_none s) ∙ sym (ap (block_of s) (ap (slot_in s) q ∙ none)))
      (λ q.
      ap (block_of new) (slot_kept m q)
      ∙ ⊎_elim
      (λ z. ap (block_of new) z ∙ block_none new ∙ sym (block_none s) ∙ sym (ap (block_of s) z))
      (λ p. ap (block_of new) p.1 ∙ block_there p.0 (elsewhere m p.0 p.1) ∙ sym (ap (block_of s) p.1))
      (zero_or (slot_in s m)))
      (cases_eq m n)

  held_put : (m : ℕ) → held_in new m ≡ meaning.put (held_in s) n true m
  held_put m =
      ⊎_elim
      (λ q. slot_held new m (λ z. omega (arith, ap (slot_in new) q, slot_taken)) ∙ sym (cond-true (eqb m n) true (held_in s m) (eq-eqb m n q)))
      (λ q. ap (λ (x : ℕ). not (eqb x 0)) (slot_kept m q) ∙ sym (cond-false (eqb m n) true (held_in s m) (ne_eqb m n q)))
      (cases_eq m n)

  pub claimed_new : Claimed (meaning_of s) n (meaning_of new)
  claimed_new =
      let not_held = slot_unheld s n none in
      record {
        stays = record { limit = take_limit; layer = refl; spent = refl; for_good = λ h. h };
        range = low;
        old_held = λ h. never (held_in s n) h not_held;
        old_left = λ h. never (held_in s n) h not_held;
        new_room = λ _. free;
        new_held = λ _. fun_ext held_put;
        new_left = λ _. take_left;
        block = fun_ext block_kept;
        backing = fun_ext block_kept;
      }
