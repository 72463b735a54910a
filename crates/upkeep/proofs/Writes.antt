-- Writes as calls on a device, and what each front of a list of them leaves.
use Rattle.std.proofs.Common.{◌≡◌, ℕ, suc, ◌+◌, ◌/◌, ◌<◌, ◌≤◌, Bool, true, false, eqb, ltb, ltb-true, min, List, [], ◌∷◌, length, take, replicate, Ok, Err, Result, refl, sym, ap, ◌∙◌, subst, ⊎_elim, arith}
use Rattle.std.proofs.Math.Path.{fun_ext}
use Rattle.calls.specs.Store.{with_bit}
use Rattle.contents.specs.Blocks.{Blocks, block_count, blocks_of, page_in}
use Rattle.contents.specs.Contents.{contents_of}
use Rattle.devices.specs.Meaning.{Meaning, put, Sound as Lawful}
use Rattle.devices.specs.Step.{Call, Kept, NotWritten, Step, Wrote, write}
use Rattle.devices.specs.Trace.{Trace}
use Rattle.faults.specs.declared.Fault.{Fault}
use Rattle.lookup.proofs.Reading.{block_shown}
use Rattle.page_edits.proofs.Back.{reads_back}
use Rattle.page_edits.specs.Write.{Fits, written}
use Rattle.pages.specs.Page.{Good}
use Rattle.splits.proofs.Splits.{put_here, put_other}
use Rattle.splits.specs.Writes.{Write, all_made, made, to_bit, to_page}
use Rattle.std.proofs.lemmas.Bool.{both_ways, cases_eq, cases_lt, cond_both}
use Rattle.std.proofs.lemmas.List.{length-replicate}
use Rattle.calls.proofs.Marks.{contents_marked, contents_written}
use Rattle.upkeep.proofs.Quiet.{Spared, block_spared, blocks_like, failed_spared, limit_spared, quiet_kept}
use Rattle.upkeep.specs.Holding.{Unclaimed}

-- the block that a write goes to, and its bytes
abbrev pub number : Write → ℕ
number (to_page p ps) = 4 + p
number (to_bit i) = i / 8192

abbrev pub bytes : Blocks → Write → List ℕ
bytes blocks (to_page p ps) = written ps
bytes blocks (to_bit i) = with_bit (blocks (i / 8192)) i

abbrev pub after_write : Blocks → Write → Blocks
after_write blocks w = put blocks (number w) (bytes blocks w)

abbrev pub write_calls : Blocks → List Write → List Call
write_calls blocks [] = []
write_calls blocks (w ∷ ws) = write (number w) (bytes blocks w) ∷ write_calls (after_write blocks w) ws

-- the page is one of a database, and its pairs fit; a bit that is set counts
abbrev pub May : Write → Type 0
May (to_page p ps) = (p < 32768) × Fits ps
May (to_bit i) = i < 32767

-- it goes to a block of the database
own : (w : Write) → May w → number w < block_count
own (to_page p ps) may = omega (arith, may.0)
own (to_bit i) may = omega (arith, may)

abbrev pub AllMay : List Write → Type 0
AllMay [] = Unit
AllMay (w ∷ ws) = May w × AllMay ws

abbrev pub AllHeld : (ℕ → Bool) → List Write → Type 0
AllHeld held [] = Unit
AllHeld held (w ∷ ws) = (held (number w) ≡ true) × AllHeld held ws

-- a write that was accepted
abbrev Accepted : Write → Meaning → Meaning → Type 0
Accepted w d e = Wrote d (number w) (bytes (blocks_of d) w) e

-- what holds of a database's device during writes too
pub record Sane (d : Meaning) : Type 0 where
  pub device : Lawful d
  pub unclaimed : Unclaimed d
  pub good : (p : ℕ) → Good (page_in (blocks_of d) p)

whole_blocks : (d : Meaning) → Lawful d → (n : ℕ) → length (blocks_of d n) ≡ 1024
unfolding blocks_of
whole_blocks d l n =
    cond_both (ltb n (min d.limit block_count)) (d.block n) (replicate 1024 0) (λ b. length b ≡ 1024) (λ t. l.whole n (omega (arith, ltb-true n (min d.limit block_count) t))) (λ _. length-replicate {A = ℕ} 1024 0)

-- one write that was accepted

module _ (blocks : Blocks) where
  contents_after : (w : Write) → May w → ((n : ℕ) → length (blocks n) ≡ 1024) → contents_of (after_write blocks w) ≡ made w (contents_of blocks)
  contents_after (to_page p ps) may whole = contents_written blocks p ps may.1
  contents_after (to_bit i) range whole = contents_marked blocks i range (whole (i / 8192))

  good_after : (w : Write) → May w → ((p : ℕ) → Good (page_in blocks p)) → (p : ℕ) → Good (page_in (after_write blocks w) p)
  good_after (to_page q ps) may good p =
      ⊎_elim
      (λ (e : 4 + p ≡ 4 + q). subst Good (sym (put_here blocks (4 + q) (written ps) (4 + p) e)) (reads_back ps may.1).0)
      (λ (n : 4 + p ≡ 4 + q → ⊥). subst Good (sym (put_other blocks (4 + q) (written ps) (4 + p) n)) (good p))
      (cases_eq (4 + p) (4 + q))
  good_after (to_bit i) range good p =
      subst Good (sym (put_other blocks (i / 8192) (with_bit (blocks (i / 8192)) i) (4 + p) (λ e. omega arith))) (good p)

module _ (d e : Meaning) (n : ℕ) (new : List ℕ) (w : Wrote d n new e) where
  wrote_blocks : n < block_count → blocks_of e ≡ put (blocks_of d) n new
  wrote_blocks own = fun_ext (λ k. ⊎_elim (here k) (other k) (cases_eq k n))
    where
      here : (k : ℕ) → k ≡ n → blocks_of e k ≡ put (blocks_of d) n new k
      here k q =
          block_shown e k (omega (arith, own)) (omega (arith, w.range, w.stays.limit))
          ∙ ap (λ (b : ℕ → List ℕ). b k) w.block
          ∙ put_here d.block n new k q
          ∙ sym (put_here (blocks_of d) n new k q)

      other : (k : ℕ) → (k ≡ n → ⊥) → blocks_of e k ≡ put (blocks_of d) n new k
      other k q =
          blocks_like d e w.stays.limit k (ap (λ (b : ℕ → List ℕ). b k) w.block ∙ put_other d.block n new k q) ∙ sym (put_other (blocks_of d) n new k q)

  wrote_lawful : Lawful d → Lawful e
  wrote_lawful l = record {
    bounded = omega (arith, w.stays.limit, l.bounded);
    inside = λ k h. omega (arith, w.stays.limit, l.inside k (sym (ap (λ (f : ℕ → Bool). f k) w.held) ∙ h));
    whole = λ k m.
        ap (λ (b : ℕ → List ℕ). length (b k)) w.block
        ∙ cond_both (eqb k n) new (d.block k) (λ b. length b ≡ 1024) (λ _. w.buffer) (λ _. l.whole k (omega (arith, w.stays.limit)));
    spent = λ k. ap (λ (s : ℕ → Fault). (s k).refusal) w.stays.spent ∙ l.spent k;
  }

  wrote_unclaimed : n < block_count → Unclaimed d → Unclaimed e
  wrote_unclaimed own u k h =
      let free : d.held k ≡ false = sym (ap (λ (f : ℕ → Bool). f k) w.held) ∙ h in
      ap (λ (b : Blocks). b k) (wrote_blocks own)
      ∙ put_other (blocks_of d) n new k (λ q. both_ways (d.held k) free (ap d.held q ∙ w.was_held))
      ∙ u k free

wrote_sane : (d e : Meaning) (w : Write) → Sane d → May w → Accepted w d e → Sane e
wrote_sane d e w s may x = record {
  device = wrote_lawful d e (number w) (bytes (blocks_of d) w) x s.device;
  unclaimed = wrote_unclaimed d e (number w) (bytes (blocks_of d) w) x (own w may) s.unclaimed;
  good = subst (λ (b : Blocks). (p : ℕ) → Good (page_in b p)) (sym (wrote_blocks d e (number w) (bytes (blocks_of d) w) x (own w may))) (good_after (blocks_of d) w may s.good);
}

-- one that was refused, of a number that is held
write_spared : (d e : Meaning) (n size : ℕ) (f : Fault) → d.held n ≡ true → NotWritten d n size f e → Spared f.refusal
write_spared d e n size f h x =
    ⊎_elim
    (λ (w : size ≡ 1024).
    ⊎_elim (λ (k : n < d.limit). failed_spared f e (x.failed w k h)) (λ (k : d.limit ≤ n). limit_spared f (ap (λ (x : Fault). x.refusal) (x.range w k))) (cases_lt n d.limit))
    (λ (w : size ≡ 1024 → ⊥). block_spared f (ap (λ (x : Fault). x.refusal) (x.buffer w)))
    (cases_eq size 1024)

sane_kept : (d e : Meaning) → Kept d e → Sane d → Sane e
sane_kept d e k s =
    let q = quiet_kept d e k in
    record {
      device = q.lawful s.device;
      unclaimed = q.unclaimed s.unclaimed;
      good = subst (λ (b : Blocks). (p : ℕ) → Good (page_in b p)) (sym q.blocks) s.good;
    }

-- a list of them

-- all of the writes were made where they were accepted, and fewer where one was refused
abbrev pub Cut : {X : Type 0} → List Write → ℕ → Result X Fault → Type 0
Cut ws n (Ok x) = n ≡ length ws
Cut ws n (Err f) = (n < length ws) × Spared f.refusal

pub record Left {X : Type 0} (ws : List Write) (d : Meaning) (r : Result X Fault) (e : Meaning) : Type 0 where
  pub sane : Sane e
  pub many : ℕ
  pub contents : contents_of (blocks_of e) ≡ all_made (take many ws) (contents_of (blocks_of d))
  pub cut : Cut ws many r

left_none : {X : Type 0} (d e : Meaning) (x : X) (r : Result X Fault) → Sane d → r ≡ Ok x → e ≡ d → Left [] d r e
left_none d e x (Ok y) s is same = record { sane = subst Sane (sym same) s; many = 0; contents = ap (λ (m : Meaning). contents_of (blocks_of m)) same; cut = refl }
left_none d e x (Err f) s is same = let z : ◌≡◌ {A = ℕ} 0 1 = cc in absurd (omega arith)

left_refused : {X : Type 0} (w : Write) (ws : List Write) (d e : Meaning) (f : Fault) → Sane d → d.held (number w) ≡ true
    → Step d (write (number w) (bytes (blocks_of d) w)) (Err f) e
    → Left {X = X} (w ∷ ws) d (Err f) e
left_refused w ws d e f s held x = record {
  sane = sane_kept d e x.0 s;
  many = 0;
  contents = ap contents_of (quiet_kept d e x.0).blocks;
  cut = (omega arith, write_spared d e (number w) (length (bytes (blocks_of d) w)) f held x.1);
}

left_more : {X : Type 0} (w : Write) (ws : List Write) (d m e : Meaning) (r : Result X Fault) → Sane d → May w → Accepted w d m → Left ws m r e → Left (w ∷ ws) d r e
left_more {X} w ws d m e r s may x left = record {
  sane = left.sane;
  many = suc left.many;
  contents = left.contents
      ∙ ap (all_made (take left.many ws))
      (ap contents_of (wrote_blocks d m (number w) (bytes (blocks_of d) w) x (own w may)) ∙ contents_after (blocks_of d) w may (whole_blocks d s.device));
  cut = more r left.cut;
}
  where
    more : (r : Result X Fault) → Cut ws left.many r → Cut (w ∷ ws) (suc left.many) r
    more (Ok y) c = ap suc c
    more (Err f) c = (omega (arith, c.0), c.1)

-- after a write that was accepted the others are those of the blocks that it left, to the same held numbers
after_one : {X : Type 0} (w : Write) (ws : List Write) (d m e : Meaning) (x : X) (r : Result X Fault) → May w → Sane d → Accepted w d m
    → Trace Step m (write_calls (after_write (blocks_of d) w) ws) (Ok x) r e
    → (Sane m → Trace Step m (write_calls (blocks_of m) ws) (Ok x) r e → Left ws m r e)
    → Left (w ∷ ws) d r e
after_one w ws d m e x r may s wrote t go =
    let blocks = wrote_blocks d m (number w) (bytes (blocks_of d) w) wrote (own w may) in
    left_more w ws d m e r s may wrote (go (wrote_sane d m w s may wrote) (subst (λ (b : Blocks). Trace Step m (write_calls b ws) (Ok x) r e) (sym blocks) t))

still_held : (w : Write) (ws : List Write) (d m : Meaning) → AllHeld d.held ws → Accepted w d m → AllHeld m.held ws
still_held w ws d m held wrote = subst (λ (h : ℕ → Bool). AllHeld h ws) (sym wrote.held) held

pub writes_leave : {X : Type 0} (ws : List Write) (d e : Meaning) (x : X) (r : Result X Fault) → AllMay ws → AllHeld d.held ws → Sane d
    → Trace Step d (write_calls (blocks_of d) ws) (Ok x) r e
    → Left ws d r e
writes_leave [] d e x r may held s t = left_none d e x r s t.0 t.1
writes_leave (w ∷ ws) d e x (Ok y) may held s t =
    after_one w ws d t.0 e x (Ok y) may.0 s t.1 t.2 (λ s u. writes_leave ws t.0 e x (Ok y) may.1 (still_held w ws d t.0 held.1 t.1) s u)
writes_leave (w ∷ ws) d e x (Err f) may held s t =
    ⊎_elim (left_refused w ws d e f s held.0)
    (λ u. after_one w ws d u.0 e x (Err f) may.0 s u.1 u.2 (λ s v. writes_leave ws u.0 e x (Err f) may.1 (still_held w ws d u.0 held.1 u.1) s v)) t
