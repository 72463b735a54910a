-- Calls that write nothing: what they leave, and how they are not refused.
use Rattle.std.proofs.Common.{◌≡◌, ◌⊎◌, ℕ, ◌+◌, ◌<◌, ◌≤◌, Bool, true, false, eqb, List, [], ◌∷◌, ◌++◌, length, replicate, cond, ltb, min, Ok, Err, Result, inl, inr, refl, sym, ap, ◌∙◌, subst, ⊎_elim, arith}
use Rattle.std.proofs.Math.Path.{fun_ext}
use Rattle.contents.specs.Blocks.{Blocks, bits_in, block_count, blocks_of}
use Rattle.devices.specs.Meaning.{Meaning, Sound as Lawful}
use Rattle.devices.specs.Step.{Call, Claimed, Failed, Kept, Step, claim, flush, read, write}
use Rattle.devices.specs.Trace.{Trace}
use Rattle.directory.specs.Tree.{page_of}
use Rattle.faults.specs.Numbers.{refusal_number}
use Rattle.faults.specs.declared.Fault.{Fault}
use Rattle.faults.specs.declared.Refusal.{Refusal}
use Rattle.faults.specs.declared.Refusal.TheVariants.{DeviceFailed, NoClaim, NotABlock, PastLimit}
use Rattle.lookup.specs.Reads.{home_calls, lookup_calls, lookup_reads, reads}
use Rattle.splits.proofs.Splits.{put_here, put_other}
use Rattle.std.proofs.lemmas.Bool.{both_ways, cases_Bool, cases_eq, cases_lt, cond_both, false_from_ne_true}
use Rattle.upkeep.specs.Holding.{Unclaimed}
use Rattle.upkeep.specs.Laws.{Never}

-- the blocks are as they were, and no number that was held was let go
pub record Quiet (d e : Meaning) : Type 0 where
  pub blocks : blocks_of e ≡ blocks_of d
  pub lawful : Lawful d → Lawful e
  pub unclaimed : Unclaimed d → Unclaimed e
  pub held : (n : ℕ) → d.held n ≡ true → e.held n ≡ true

pub quiet_same : (d : Meaning) → Quiet d d
quiet_same d = record { blocks = refl; lawful = λ l. l; unclaimed = λ u. u; held = λ n h. h }

pub quiet_then : (d m e : Meaning) → Quiet d m → Quiet m e → Quiet d e
quiet_then d m e a b = record {
  blocks = b.blocks ∙ a.blocks;
  lawful = λ l. b.lawful (a.lawful l);
  unclaimed = λ u. b.unclaimed (a.unclaimed u);
  held = λ n h. b.held n (a.held n h);
}

-- a block that is as it was is shown as it was
pub blocks_like : (d e : Meaning) → e.limit ≡ d.limit → (k : ℕ) → e.block k ≡ d.block k → blocks_of e k ≡ blocks_of d k
unfolding blocks_of
blocks_like d e limit k same =
    ap (λ (l : ℕ). cond (ltb k (min l block_count)) (e.block k) (replicate 1024 0)) limit ∙ ap (λ (b : List ℕ). cond (ltb k (min d.limit block_count)) b (replicate 1024 0)) same

-- nothing but held numbers was changed, and they are below the limit
module _ (d e : Meaning) (limit : e.limit ≡ d.limit) (block : e.block ≡ d.block) where
  pub quiet_from : e.spent ≡ d.spent → ((n : ℕ) → d.held n ≡ true → e.held n ≡ true) → ((n : ℕ) → e.held n ≡ true → (d.held n ≡ true) ⊎ (n < d.limit)) → Quiet d e
  quiet_from spent more inside = record {
    blocks = fun_ext (λ k. blocks_like d e limit k (ap (λ (b : ℕ → List ℕ). b k) block));
    lawful = λ l. record {
      bounded = omega (arith, limit, l.bounded);
      inside = λ n h. omega (arith, limit, ⊎_elim (l.inside n) (λ k. k) (inside n h));
      whole = λ n k. ap (λ (b : ℕ → List ℕ). length (b n)) block ∙ l.whole n (omega (arith, limit));
      spent = λ n. ap (λ (s : ℕ → Fault). (s n).refusal) spent ∙ l.spent n;
    };
    unclaimed = λ u n h.
        blocks_like d e limit n (ap (λ (b : ℕ → List ℕ). b n) block)
        ∙ u n (false_from_ne_true (d.held n) (λ t. both_ways (e.held n) h (more n t)));
    held = more;
  }

pub quiet_kept : (d e : Meaning) → Kept d e → Quiet d e
quiet_kept d e k =
    quiet_from d e k.stays.limit k.block k.stays.spent (λ n h. ap (λ (f : ℕ → Bool). f n) k.held ∙ h) (λ n h. inl (sym (ap (λ (f : ℕ → Bool). f n) k.held) ∙ h))

pub quiet_claimed : (d e : Meaning) (n : ℕ) → Claimed d n e → Quiet d e
quiet_claimed d e n c = quiet_from d e c.stays.limit c.block c.stays.spent more inside
  where
    more : (k : ℕ) → d.held k ≡ true → e.held k ≡ true
    more k h =
        ⊎_elim
        (λ (old : d.held n ≡ true). ap (λ (f : ℕ → Bool). f k) (c.old_held old) ∙ h)
        (λ (new : d.held n ≡ false). ap (λ (f : ℕ → Bool). f k) (c.new_held new) ∙ cond_both (eqb k n) true (d.held k) (λ b. b ≡ true) (λ _. refl) (λ _. h))
        (cases_Bool (d.held n))

    inside : (k : ℕ) → e.held k ≡ true → (d.held k ≡ true) ⊎ (k < d.limit)
    inside k h =
        ⊎_elim
        (λ (e : k ≡ n). inr (omega (arith, c.range)))
        (λ (ne : k ≡ n → ⊥).
        inl
        (⊎_elim
        (λ (old : d.held n ≡ true). sym (ap (λ (f : ℕ → Bool). f k) (c.old_held old)) ∙ h)
        (λ (new : d.held n ≡ false). sym (ap (λ (f : ℕ → Bool). f k) (c.new_held new) ∙ put_other d.held n true k ne) ∙ h)
        (cases_Bool (d.held n))))
        (cases_eq k n)

-- a number that was claimed is held
pub claimed_held : (d e : Meaning) (n : ℕ) → Claimed d n e → e.held n ≡ true
claimed_held d e n c =
    ⊎_elim
    (λ (old : d.held n ≡ true). ap (λ (f : ℕ → Bool). f n) (c.old_held old) ∙ old)
    (λ (new : d.held n ≡ false). ap (λ (f : ℕ → Bool). f n) (c.new_held new) ∙ put_here d.held n true n refl)
    (cases_Bool (d.held n))

-- refusals that are none of 6, 7 and 11

abbrev pub Spared : Refusal → Type 0
Spared q = (refusal_number q ≡ 6 → ⊥) × (refusal_number q ≡ 7 → ⊥) × (refusal_number q ≡ 11 → ⊥)

pub spared : (q : Refusal) → (refusal_number q < 6) ⊎ ((7 < refusal_number q) × (refusal_number q ≡ 11 → ⊥)) → Spared q
spared q (inl l) = (λ x. omega arith, λ x. omega arith, λ x. omega arith)
spared q (inr l) = (λ x. omega (arith, l.0), λ x. omega (arith, l.0), l.1)

spared_at : (q : Refusal) (f : Fault) → f.refusal ≡ q → Spared q → Spared f.refusal
spared_at q f e s = subst Spared (sym e) s

pub failed_spared : (f : Fault) (e : Meaning) → Failed f e → Spared f.refusal
failed_spared f e x = spared_at DeviceFailed f x.refusal (spared DeviceFailed (inr (omega arith, λ e. omega arith)))

pub block_spared : (f : Fault) → f.refusal ≡ NotABlock → Spared f.refusal
block_spared f e = spared_at NotABlock f e (spared NotABlock (inl (omega arith)))

pub limit_spared : (f : Fault) → f.refusal ≡ PastLimit → Spared f.refusal
limit_spared f e = spared_at PastLimit f e (spared PastLimit (inr (omega arith, λ e. omega arith)))

claim_spared : (f : Fault) → f.refusal ≡ NoClaim → Spared f.refusal
claim_spared f e = spared_at NoClaim f e (spared NoClaim (inr (omega arith, λ e. omega arith)))

-- calls

abbrev pub IsQuiet : Call → Type 0
IsQuiet (claim n) = Unit
IsQuiet (read n size) = Unit
IsQuiet (write n bytes) = ⊥
IsQuiet flush = Unit

abbrev pub AllQuiet : List Call → Type 0
AllQuiet [] = Unit
AllQuiet (c ∷ cs) = IsQuiet c × AllQuiet cs

pub quiet_append : (cs ds : List Call) → AllQuiet cs → AllQuiet ds → AllQuiet (cs ++ ds)
quiet_append [] ds q r = r
quiet_append (c ∷ cs) ds q r = (q.0, quiet_append cs ds q.1 r)

pub quiet_reads : (ns : List ℕ) → AllQuiet (reads ns)
quiet_reads [] = tt
quiet_reads (n ∷ ns) = (tt, quiet_reads ns)

call_quiet : (c : Call) (d e : Meaning) (r : Result Unit Fault) → IsQuiet c → Step d c r e → Quiet d e
call_quiet (claim n) d e (Ok x) q s = quiet_claimed d e n s
call_quiet (claim n) d e (Err f) q s = quiet_kept d e s.0
call_quiet (read n size) d e (Ok x) q s = quiet_kept d e s.kept
call_quiet (read n size) d e (Err f) q s = quiet_kept d e s.0
call_quiet (write n bytes) d e r q s = absurd q
call_quiet flush d e (Ok x) q s = quiet_kept d e s.kept
call_quiet flush d e (Err f) q s = quiet_kept d e s.0

call_spared : (c : Call) (d e : Meaning) (f : Fault) → IsQuiet c → Lawful d → Step d c (Err f) e → Spared f.refusal
call_spared (claim n) d e f q l s =
    ⊎_elim
    (λ (k : n < d.limit).
    ⊎_elim
    (λ (h : d.held n ≡ true). failed_spared f e (s.2.old k h))
    (λ (h : d.held n ≡ false).
    ⊎_elim
    (λ (z : d.left ≡ 0). claim_spared f (ap (λ (x : Fault). x.refusal) (s.2.spent k h z) ∙ l.spent n))
    (λ (z : d.left ≡ 0 → ⊥). failed_spared f e (s.2.new k h (omega arith)))
    (cases_eq d.left 0))
    (cases_Bool (d.held n)))
    (λ (k : d.limit ≤ n). limit_spared f (ap (λ (x : Fault). x.refusal) (s.2.range k)))
    (cases_lt n d.limit)
call_spared (read n size) d e f q l s =
    ⊎_elim
    (λ (w : size ≡ 1024).
    ⊎_elim (λ k. failed_spared f e (s.2.failed w k)) (λ k. limit_spared f (ap (λ (x : Fault). x.refusal) (s.2.range w k))) (cases_lt n d.limit))
    (λ (w : size ≡ 1024 → ⊥). block_spared f (ap (λ (x : Fault). x.refusal) (s.2.buffer w)))
    (cases_eq size 1024)
call_spared (write n bytes) d e f q l s = absurd q
call_spared flush d e f q l s = failed_spared f e s.1

-- lists of them

pub quiet_trace : {X : Type 0} (cs : List Call) (d e : Meaning) (own r : Result X Fault) → AllQuiet cs → Trace Step d cs own r e → Quiet d e
quiet_trace [] d e own r q t = subst (Quiet d) (sym t.1) (quiet_same d)
quiet_trace (c ∷ cs) d e own (Ok x) q t = quiet_then d t.0 e (call_quiet c d t.0 (Ok tt) q.0 t.1) (quiet_trace cs t.0 e own (Ok x) q.1 t.2)
quiet_trace (c ∷ cs) d e own (Err f) q t =
    ⊎_elim (call_quiet c d e (Err f) q.0) (λ u. quiet_then d u.0 e (call_quiet c d u.0 (Ok tt) q.0 u.1) (quiet_trace cs u.0 e own (Err f) q.1 u.2)) t

pub quiet_never : {X : Type 0} (cs : List Call) (d e : Meaning) (own r : Result X Fault) → AllQuiet cs → Lawful d → Never own → Trace Step d cs own r e → Never r
quiet_never [] d e own r q l n t = subst Never (sym t.0) n
quiet_never (c ∷ cs) d e own (Ok x) q l n t = tt
quiet_never (c ∷ cs) d e own (Err f) q l n t =
    ⊎_elim (call_spared c d e f q.0 l) (λ u. quiet_never cs u.0 e own (Err f) q.1 ((call_quiet c d u.0 (Ok tt) q.0 u.1).lawful l) n u.2) t

-- an answer that is a refusal is not accepted
pub never_accepted : {X : Type 0} (cs : List Call) (d e : Meaning) (f : Fault) (x : X) → Trace Step d cs (Err f) (Ok x) e → ⊥
never_accepted [] d e f x t = let q = t.0 in let z : ◌≡◌ {A = ℕ} 0 1 = cc in omega arith
never_accepted (c ∷ cs) d e f x t = never_accepted cs t.0 e f x t.2

pub home_quiet : (blocks : Blocks) (h : ℕ) → AllQuiet (home_calls blocks h)
home_quiet blocks h =
    let page = (4 + page_of (bits_in blocks) h) ∷ [] in
    quiet_append (lookup_calls blocks h) (reads page) (quiet_reads (lookup_reads (bits_in blocks) h)) (quiet_reads page)
