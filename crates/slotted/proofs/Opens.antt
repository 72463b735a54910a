-- A device that was opened.
use Rattle.std.proofs.Common.{◌≡◌, ℕ, ◌-◌, ◌*◌, ◌≤◌, true, false, not, eqb, List, length, Some, None, Option, Decides, sym, ap, ◌∙◌, subst, ⊎_elim, arith}
use Rattle.slotted.proofs.Images.{formed_from, formed_not, formed_parts, formed_tells, left_formed, limit_formed, limit_out, slot_yes, used_formed}
use Rattle.slotted.proofs.Tables.{used_le}
use Rattle.slotted.specs.Image.{Indexed, WellFormed, left_in, limit_in, well_formed}
use Rattle.slotted.specs.Records.{records, table_of}
use Rattle.slotted.specs.Table.{Scanned, good_to, record_of, used_to}
use Rattle.std.proofs.lemmas.Bool.Decides.{Decides-at}
use Rattle.std.proofs.lemmas.Bool.{both_ways, cases_Bool, eq-eqb, ne_eqb, not_from_false, not_from_true}

-- what a scan of the bytes says of them
pub scan_bad : (s : List ℕ) (index : List (Option ℕ)) → length index ≡ 65544 → Scanned (table_of s) (records s) index None → well_formed s ≡ false
scan_bad s index long g =
    let b : good_to (table_of s) 65544 (records s) ≡ false = subst (λ (n : ℕ). good_to (table_of s) n (records s) ≡ false) long g in
    formed_not s (λ p. both_ways (good_to (table_of s) 65544 (records s)) b p.2)

pub scan_good : (s : List ℕ) (index : List (Option ℕ)) (used : ℕ) → 1030 * records s ≡ length s → records s ≤ 65544 → length index ≡ 65544 → Scanned (table_of s) (records s) index (Some used) → Indexed s index used
scan_good s index used whole few long g =
    let b : good_to (table_of s) 65544 (records s) ≡ true = subst (λ (n : ℕ). good_to (table_of s) n (records s) ≡ true) long g.0 in
    let w = formed_from s whole few b in
    record {
      formed = w;
      sized = long ∙ sym (limit_formed s w);
      listed = λ n l. g.2 n (omega (arith, limit_formed s w)) ∙ ap record_of (sym (slot_yes s w n));
      counted = g.1 ∙ sym (used_formed s w);
    }

-- how many records are not used
pub record Unused (s : List ℕ) (used : ℕ) : Type 0 where
  pub within : used ≤ records s
  pub few : records s ≤ 65544
  pub rest : records s - used ≡ left_in s

pub unused : (s : List ℕ) (index : List (Option ℕ)) (used : ℕ) → Indexed s index used → Unused s used
unused s index used i =
    let c : used ≡ used_to (table_of s) (records s) = i.counted ∙ used_formed s i.formed in
    record {
      within = omega (arith, c, used_le (table_of s) (records s));
      few = (formed_parts s i.formed).1;
      rest = ap (λ (u : ℕ). records s - u) i.counted ∙ sym (left_formed s i.formed);
    }

-- whether the index is empty tells whether the bytes are well-formed
pub formed_index : (s : List ℕ) (len : ℕ) → len ≡ limit_in s → not (eqb len 0) ≡ well_formed s
formed_index s len e =
    ⊎_elim
    (λ w. not_from_false (eqb len 0) (ne_eqb len 0 (λ z. omega (arith, limit_formed s w))) ∙ sym w)
    (λ w. not_from_true (eqb len 0) (eq-eqb len 0 (e ∙ limit_out s w)) ∙ sym w)
    (cases_Bool (well_formed s))

pub index_tells : (s : List ℕ) (len : ℕ) → len ≡ limit_in s → Decides (not (eqb len 0)) (WellFormed s)
index_tells s len e = Decides-at (not (eqb len 0)) (well_formed s) (formed_index s len e) (formed_tells s)
