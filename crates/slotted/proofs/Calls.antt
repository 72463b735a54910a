-- The accepted calls that change the bytes: the account of the bytes, and the law.
use Rattle.std.proofs.Common.{◌≡◌, ℕ, suc, ◌+◌, ◌*◌, ◌<◌, ◌≤◌, List, length, get_or, set, Some, None, Option, Ok, sym, ap, ◌∙◌, subst, ⊎_elim, arith}
use Rattle.devices.specs.Step.{Step, claim, write}
use Rattle.slotted.proofs.Images.{slot_inside, slot_unheld}
use Rattle.slotted.proofs.Same.{same_left, same_limit, same_slot, same_used}
use Rattle.slotted.proofs.Takes.{claimed_new, first_free, slot_kept, slot_taken, take_limit}
use Rattle.slotted.proofs.Writes.{write_length, write_table, wrote}
use Rattle.slotted.specs.Account.{Bytewise, written}
use Rattle.devices.specs.Bytes.{put}
use Rattle.slotted.specs.Image.{held_in, left_in, limit_in, meaning_of, record_in, slot_in, used_in}
use Rattle.slotted.specs.Records.{fresh}
use Rattle.slotted.specs.Table.{record_of}
use Rattle.std.proofs.lemmas.List.{get_or-set_other, get_or-set_same}
use Rattle.std.proofs.lemmas.Bool.{cases_eq, cond-false}

pub record Keeps (s t : List ℕ) : Type 0 where
  pub limit : limit_in t ≡ limit_in s
  pub slot : (n : ℕ) → slot_in t n ≡ slot_in s n
  pub used : used_in t ≡ used_in s
  pub left : left_in t ≡ left_in s

module _ (s : List ℕ) (k : ℕ) (bs t : List ℕ) (full : length bs ≡ 1024) (e : t ≡ put s (1030 * k + 6) bs) where
  pub write_keeps : 1030 * k + 1030 ≤ length s → Keeps s t
  write_keeps inside =
      let new = put s (1030 * k + 6) bs in
      let len = write_length s k bs full inside in
      let tab = write_table s k bs full inside in
      record {
        limit = ap limit_in e ∙ same_limit s new len tab;
        slot = λ n. ap (λ (x : List ℕ). slot_in x n) e ∙ same_slot s new len tab n;
        used = ap used_in e ∙ same_used s new len tab;
        left = ap left_in e ∙ same_left s new len tab;
      }

  pub write_did : (n : ℕ) → slot_in s n ≡ suc k → Bytewise s (write n bs) (Ok tt) t × Step (meaning_of s) (write n bs) (Ok tt) (meaning_of t)
  unfolding written
  write_did n slot =
      let law = wrote s k bs full (slot_inside s n k slot) n slot in (
        (e ∙ sym (ap (λ (x : ℕ). written s x bs) slot), tt),
        subst (λ (x : List ℕ). Step (meaning_of s) (write n bs) (Ok tt) (meaning_of x)) (sym e) law,
      )

module _ (s : List ℕ) (n : ℕ) (low : n < limit_in s) (none : slot_in s n ≡ 0) (free : 0 < left_in s) where
  abbrev new : List ℕ
  new = put s (1030 * used_in s) (fresh n)

  -- the index with the new record's number
  pub take_listed : (index : List (Option ℕ)) → length index ≡ limit_in s → ((m : ℕ) → m < limit_in s → get_or index m None ≡ record_in s m) → (m : ℕ) → m < limit_in new → get_or (set index n (Some (used_in s))) m None ≡ record_in new m
  take_listed index long listed m l =
      ⊎_elim
      (λ q.
      ap (λ (x : ℕ). get_or (set index n (Some (used_in s))) x None) q
      ∙ get_or-set_same index n (Some (used_in s)) None (omega arith)
      ∙ ap record_of (sym (slot_taken s n low none free) ∙ sym (ap (slot_in new) q)))
      (λ q.
      get_or-set_other index n m (Some (used_in s)) None q
      ∙ listed m (omega (arith, take_limit s n low none free))
      ∙ ap record_of (sym (slot_kept s n low none free m q)))
      (cases_eq m n)

  pub claim_did : (t : List ℕ) → t ≡ new → Bytewise s (claim n) (Ok tt) t × Step (meaning_of s) (claim n) (Ok tt) (meaning_of t)
  claim_did t e = (
    (e ∙ sym (cond-false (held_in s n) s new (slot_unheld s n none)), λ _. first_free s n low none free),
    subst (λ (x : List ℕ). Step (meaning_of s) (claim n) (Ok tt) (meaning_of x)) (sym e) (claimed_new s n low none free),
  )
