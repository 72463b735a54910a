-- What reads of a device find, and what they leave.
use Rattle.std.proofs.Common.{◌≡◌, ℕ, ◌/◌, ◌<◌, cond, ltb, min, List, [], ◌∷◌, ◌++◌, replicate, Ok, Err, OnOk, Result, inl, inr, refl, sym, ap, subst, ◌∙◌, ⊎_elim, arith}
use Rattle.contents.specs.Blocks.{block_count, blocks_of}
use Rattle.devices.proofs.Traces.{trace_then, trace_stop}
use Rattle.devices.specs.Meaning.{Meaning}
use Rattle.devices.specs.Step.{Call, Filled, Kept, read}
use Rattle.devices.specs.Trace.{Account, Did, Trace}
use Rattle.faults.specs.declared.Fault.{Fault}
use Rattle.lookup.specs.Reads.{another, blocks_of_bits, reads}
use Rattle.std.specs.Result.{result_unwrap_or}
use Rattle.std.proofs.lemmas.Bool.{cond-true, lt-ltb}

-- a device shows the block that it was asked for, where it is one of a database
pub block_shown : (d : Meaning) (n : ℕ) → n < block_count → n < d.limit → blocks_of d n ≡ d.block n
unfolding blocks_of
block_shown d n own l = cond-true (ltb n (min d.limit block_count)) (d.block n) (replicate 1024 0) (lt-ltb n (min d.limit block_count) (omega (arith, own, l)))

pub kept_blocks : (d e : Meaning) → Kept d e → blocks_of e ≡ blocks_of d
unfolding blocks_of
kept_blocks d e k =
    ap {B = ℕ → List ℕ} (λ (l : ℕ). λ (n : ℕ). cond (ltb n (min l block_count)) (e.block n) (replicate 1024 0)) k.stays.limit
    ∙ ap {B = ℕ → List ℕ} (λ (b : ℕ → List ℕ). λ (n : ℕ). cond (ltb n (min d.limit block_count)) (b n) (replicate 1024 0)) k.block

pub reads_append : (ns ms : List ℕ) → reads (ns ++ ms) ≡ reads ns ++ reads ms
reads_append [] ms = refl
reads_append (n ∷ ns) ms = ap (λ (cs : List Call). read n 1024 ∷ cs) (reads_append ns ms)

module _ {S : Type 0} (did : S → Call → Result Unit Fault → S → Type 0) (last i : ℕ) (is : List ℕ) where
  -- the bits that are still to be tested, after the block of one was turned to
  pub go_on : {X Y : Type 0} (d m e : S) (x y : X) (own r : Result Y Fault) → Trace did d (reads (another last (i / 8192))) (Ok x) (Ok y) m → Trace did m (reads (blocks_of_bits (i / 8192) is)) own r e → Trace did d (reads (blocks_of_bits last (i ∷ is))) own r e
  go_on d m e x y own r t u =
      subst (λ (cs : List Call). Trace did d cs own r e) (sym (reads_append (another last (i / 8192)) (blocks_of_bits (i / 8192) is)))
      (trace_then did (reads (another last (i / 8192))) (reads (blocks_of_bits (i / 8192) is)) d m e x y own r t u)

  pub stop : {X Y : Type 0} (d e : S) (x : X) (own : Result Y Fault) (f : Fault) → Trace did d (reads (another last (i / 8192))) (Ok x) (Err f) e → Trace did d (reads (blocks_of_bits last (i ∷ is))) own (Err f) e
  stop d e x own f t =
      subst (λ (cs : List Call). Trace did d cs own (Err f) e) (sym (reads_append (another last (i / 8192)) (blocks_of_bits (i / 8192) is)))
      (trace_stop did (reads (another last (i / 8192))) (reads (blocks_of_bits (i / 8192) is)) d e x own f t)

-- reads leave the blocks as they are
pub reads_keep : {S X : Type 0} (steps : Account S) (M : S → Meaning) (ns : List ℕ) (d e : S) (own r : Result X Fault) → Trace (Did steps M) d (reads ns) own r e → blocks_of (M e) ≡ blocks_of (M d)
reads_keep steps M [] d e own r t = ap (λ s. blocks_of (M s)) t.1
reads_keep steps M (n ∷ ns) d e own (Ok x) t = reads_keep steps M ns t.0 e own (Ok x) t.2 ∙ kept_blocks (M d) (M t.0) t.1.1.kept
reads_keep {S} steps M (n ∷ ns) d e own (Err f) t =
    ⊎_elim
    (λ (s : Did steps M d (read n 1024) (Err f) e). kept_blocks (M d) (M e) s.1.0)
    (λ (u : (m : S) × Did steps M d (read n 1024) (Ok tt) m × Trace (Did steps M) m (reads ns) own (Err f) e). reads_keep steps M ns u.0 e own (Err f) u.2 ∙ kept_blocks (M d) (M u.0) u.1.1.kept)
    t

-- what a read leaves in the buffer where it was accepted
pub filled_shown : {S : Type 0} (steps : Account S) (M : S → Meaning) (d e : S) (n size : ℕ) (r : Result Unit Fault) (old new : List ℕ) → n < block_count → size ≡ 1024 → Did steps M d (read n size) r e → Filled (M d) n r old new → OnOk r (new ≡ blocks_of (M d) n)
filled_shown steps M d e n size (Ok u) old new own w did is = is ∙ sym (block_shown (M d) n own did.1.range)
filled_shown steps M d e n size (Err f) old new own w did is = tt

-- another answer to calls that were all accepted
pub answered : {S X Y : Type 0} (did : S → Call → Result Unit Fault → S → Type 0) (cs : List Call) (d e : S) (x y : X) (own r : Result Y Fault) → r ≡ own → Trace did d cs (Ok x) (Ok y) e → Trace did d cs own r e
answered did [] d e x y own r is t = (is, t.1)
answered did (c ∷ cs) d e x y own (Ok z) is t = (t.0, t.1, answered did cs t.0 e x y own (Ok z) is t.2)
answered did (c ∷ cs) d e x y own (Err f) is t = inr (t.0, t.1, answered did cs t.0 e x y own (Err f) is t.2)

pub answer_is : {A : Type 0} {a b : A} → ◌≡◌ {A = Result A Fault} (Ok a) (Ok b) → a ≡ b
answer_is {A} {a} e = ap (λ (r : Result A Fault). result_unwrap_or r a) e

-- the answer where no call was refused
pub own_answer : {S Y : Type 0} (did : S → Call → Result Unit Fault → S → Type 0) (cs : List Call) (d e : S) (y : Y) (own : Result Y Fault) → Trace did d cs own (Ok y) e → Ok y ≡ own
own_answer did [] d e y own t = t.0
own_answer did (c ∷ cs) d e y own t = own_answer did cs t.0 e y own t.2

-- one read more, after calls that were all accepted
module _ {S X Y : Type 0} (steps : Account S) (M : S → Meaning) (cs : List Call) (d m : S) (x y : X) (own : Result Y Fault) (t : Trace (Did steps M) d cs (Ok x) (Ok y) m) (n size : ℕ) (whole : size ≡ 1024) where
  abbrev did : S → Call → Result Unit Fault → S → Type 0
  did = Did steps M

  pub read_refused : (e : S) (f : Fault) → did m (read n size) (Err f) e → Trace did d (cs ++ reads (n ∷ [])) own (Err f) e
  read_refused e f s =
      trace_then did cs (reads (n ∷ [])) d m e x y own (Err f) t (inl (subst (λ (k : ℕ). did m (read n k) (Err f) e) whole s))

  pub read_accepted : (e : S) (z : Y) → Ok z ≡ own → did m (read n size) (Ok tt) e → Trace did d (cs ++ reads (n ∷ [])) own (Ok z) e
  read_accepted e z is s =
      trace_then did cs (reads (n ∷ [])) d m e x y own (Ok z) t (e, subst (λ (k : ℕ). did m (read n k) (Ok tt) e) whole s, (is, refl))

-- a refusal by one of the calls is the answer, whatever the answer without it
pub refused_too : {S X Y : Type 0} (did : S → Call → Result Unit Fault → S → Type 0) (cs : List Call) (d e : S) (x : X) (own : Result Y Fault) (f : Fault) → Trace did d cs (Ok x) (Err f) e → Trace did d cs own (Err f) e
refused_too did [] d e x own f t = let q = t.0 in let z : ◌≡◌ {A = ℕ} 0 1 = cc in let no : ⊥ = omega arith in elim no [ ]
refused_too {S} {X} did (c ∷ cs) d e x own f t =
    ⊎_elim inl (λ (u : (m : S) × did d c (Ok tt) m × Trace {X = X} did m cs (Ok x) (Err f) e). inr (u.0, u.1, refused_too did cs u.0 e x own f u.2)) t

-- one call that was accepted, before others
pub first_then : {S Y : Type 0} (did : S → Call → Result Unit Fault → S → Type 0) (c : Call) (cs : List Call) (d m e : S) (own r : Result Y Fault) → did d c (Ok tt) m → Trace did m cs own r e → Trace did d (c ∷ cs) own r e
first_then did c cs d m e own (Ok z) s t = (m, s, t)
first_then did c cs d m e own (Err f) s t = inr (m, s, t)

-- the answer made into another, where a refusal stays that refusal
module _ {S X Y : Type 0} (did : S → Call → Result Unit Fault → S → Type 0) (h : Result X Fault → Result Y Fault) (keeps : (f : Fault) → h (Err f) ≡ Err f) where
  pub mapped : (cs : List Call) (d e : S) (own r : Result X Fault) → Trace did d cs own r e → Trace did d cs (h own) (h r) e
  mapped [] d e own r t = (ap h t.0, t.1)
  mapped (c ∷ cs) d e own (Ok x) t = first_then did c cs d t.0 e (h own) (h (Ok x)) t.1 (mapped cs t.0 e own (Ok x) t.2)
  mapped (c ∷ cs) d e own (Err f) t =
      subst (λ (r : Result Y Fault). Trace did d (c ∷ cs) (h own) r e) (sym (keeps f))
      (⊎_elim
      inl
      (λ (u : (m : S) × did d c (Ok tt) m × Trace {X = X} did m cs own (Err f) e).
      inr (u.0, u.1, subst (λ (r : Result Y Fault). Trace did u.0 cs (h own) r e) (keeps f) (mapped cs u.0 e own (Err f) u.2)))
      t)
