-- A visit and the visits after it.
use Rattle.std.proofs.Common.{◌≡◌, ℕ, suc, ◌+◌, ◌-◌, ◌<◌, ◌==◌, Bool, true, false, cond, List, [], ◌∷◌, ◌++◌, Option, Some, None, Ok, Err, OnOk, Result, inl, inr, refl, sym, ap, ap₂, ◌∙◌, subst, ⊎_elim, add-one, arith}
use Rattle.contents.specs.Blocks.{Blocks, bits_in, blocks_of}
use Rattle.contents.specs.Contents.{Position}
use Rattle.calls.specs.Step.{Shows, calls_from, last_page, onward, page_from, reachable, step_calls, step_from, stepped, visit_calls, visited}
use Rattle.calls.specs.declared.Stepped.{Stepped}
use Rattle.calls.specs.declared.Stepped.TheVariants.{Pair}
use Rattle.devices.proofs.Traces.{trace_stop, trace_then}
use Rattle.devices.specs.Meaning.{Meaning}
use Rattle.devices.specs.Step.{Call, fault}
use Rattle.devices.specs.Trace.{Account, Did, Trace}
use Rattle.faults.specs.declared.Fault.{Fault}
use Rattle.faults.specs.declared.Layer.TheVariants.{Database}
use Rattle.faults.specs.declared.Refusal.TheVariants.{NotABlock}
use Rattle.lookup.proofs.Reading.{own_answer, reads_append, reads_keep}
use Rattle.lookup.specs.Made.{Made}
use Rattle.lookup.specs.Reads.{lookup_reads, reads}
use Rattle.std.proofs.lemmas.Bool.{cond-false, cond-true, eq-eqb, ne_eqb}

-- the calls, the answer and the page of a step, by what the first visit finds
abbrev calls_after : List Call → List Call → Result (Option Shows) Fault → List Call
calls_after cs ds v = cs ++ onward v (λ _. []) (λ _. []) ds

abbrev answer_after : Result Stepped Fault → Result (Option Shows) Fault → Result Stepped Fault
answer_after own v = onward v (λ s. Ok (Pair s)) (λ f. Err f) own

abbrev page_after : List ℕ → List ℕ → List ℕ → Result (Option Shows) Fault → List ℕ
page_after page old rest v = onward v (λ _. page) (λ _. old) rest

module _ {S : Type 0} (did : S → Call → Result Unit Fault → S → Type 0) where
  -- a refusal is that of a call, or the answer of the visit
  refused_last : {X Y : Type 0} (cs : List Call) (d e : S) (own : Result X Fault) (last : Result Y Fault) (f g : Fault) → own ≡ Err g → last ≡ Err g → Trace did d cs own (Err f) e
      → Trace did d (cs ++ []) last (Err f) e
  refused_last [] d e own last f g is to t = let same : f ≡ g = cc in (ap Err same ∙ sym to, t.1)
  refused_last (c ∷ cs) d e own last f g is to t = ⊎_elim inl (λ u. inr (u.0, u.1, refused_last cs u.0 e own last f g is to u.2)) t

  refused : (cs ds : List Call) (own : Result Stepped Fault) (v : Result (Option Shows) Fault) (d e : S) (f : Fault) → Trace did d cs v (Err f) e
      → Trace did d (calls_after cs ds v) (answer_after own v) (Err f) e
  refused cs ds own (Ok None) d e f t = trace_stop did cs ds d e _ own f t
  refused cs ds own (Ok (Some s)) d e f t = trace_stop did cs [] d e _ (Ok (Pair s)) f t
  refused cs ds own (Err g) d e f t = refused_last cs d e (Err g) (Err g) f g refl refl t

-- a visit only reads
reads_where : (b : Bool) (ns : List ℕ) → reads (cond b ns []) ≡ cond b (reads ns) []
reads_where true ns = refl
reads_where false ns = refl

visit_reads : (blocks : Blocks) (p : ℕ) → reads (lookup_reads (bits_in blocks) p ++ cond (reachable blocks p) ((4 + p) ∷ []) []) ≡ visit_calls blocks p
visit_reads blocks p =
    let ns = lookup_reads (bits_in blocks) p in
    reads_append ns (cond (reachable blocks p) ((4 + p) ∷ []) []) ∙ ap (λ (cs : List Call). reads ns ++ cs) (reads_where (reachable blocks p) ((4 + p) ∷ []))

-- a visit of page p from number n on, at a state d that has the blocks of the entry, and the visits of the pages after it
module _ {S : Type 0} (steps : Account S) (M : S → Meaning) (blocks : Blocks) (p n : ℕ) (d m : S) (v : Result (Option Shows) Fault) (l : p < 32768) (same : blocks_of (M d) ≡ blocks)
    (made : Made steps M d (λ b. visit_calls b p) (λ b. visited b p n) v m) where
  abbrev did : S → Call → Result Unit Fault → S → Type 0
  did = Did steps M

  abbrev k : ℕ
  k = 32768 - (p + 1)

  more : 32768 - p ≡ suc k
  more = omega arith

  visit : (r : Result (Option Shows) Fault) → v ≡ r → Trace did d (visit_calls blocks p) (visited blocks p n) r m
  visit r is =
      subst (λ (w : Result (Option Shows) Fault). Trace did d (visit_calls blocks p) (visited blocks p n) w m) is
      (subst (λ (b : Blocks). Trace did d (visit_calls b p) (visited b p n) v m) same made)

  own : (o : Option Shows) → v ≡ Ok o → Ok o ≡ visited blocks p n
  own o is = own_answer did (visit_calls blocks p) d m o (visited blocks p n) (visit (Ok o) is)

  accepted : (o : Option Shows) → v ≡ Ok o → Trace did d (visit_calls blocks p) (Ok o) (Ok o) m
  accepted o is = subst (λ (w : Result (Option Shows) Fault). Trace did d (visit_calls blocks p) w (Ok o) m) (sym (own o is)) (visit (Ok o) is)

  -- the calls and the answer from page p on
  abbrev calls : Result (Option Shows) Fault → List Call
  calls = calls_after (visit_calls blocks p) (calls_from blocks k (suc p) 0)

  abbrev answer : Result (Option Shows) Fault → Result Stepped Fault
  answer = answer_after (step_from blocks k (suc p) 0)

  whole : (o : Option Shows) → v ≡ Ok o → (r : Result Stepped Fault) (e : S) → Trace did d (calls (Ok o)) (answer (Ok o)) r e
      → Trace did d (calls_from blocks (32768 - p) p n) (step_from blocks (32768 - p) p n) r e
  whole o is r e t =
      subst (λ (j : ℕ). Trace did d (calls_from blocks j p n) (step_from blocks j p n) r e) (sym more)
      (subst (λ (w : Result (Option Shows) Fault). Trace did d (calls w) (answer w) r e) (own o is) t)

  pub visit_refused : (f : Fault) (r : Result Stepped Fault) → v ≡ Err f → r ≡ Err f → Trace did d (calls_from blocks (32768 - p) p n) (step_from blocks (32768 - p) p n) r m
  visit_refused f r is at =
      subst (λ (j : ℕ). Trace did d (calls_from blocks j p n) (step_from blocks j p n) r m) (sym more)
      (subst (λ (r : Result Stepped Fault). Trace did d (calls (visited blocks p n)) (answer (visited blocks p n)) r m) (sym at)
      (refused did (visit_calls blocks p) (calls_from blocks k (suc p) 0) (step_from blocks k (suc p) 0) (visited blocks p n) d m f (visit (Err f) is)))

  pub visit_found : (s : Shows) → v ≡ Ok (Some s) → Trace did d (calls_from blocks (32768 - p) p n) (step_from blocks (32768 - p) p n) (Ok (Pair s)) m
  visit_found s is =
      whole (Some s) is (Ok (Pair s)) m (trace_then did (visit_calls blocks p) [] d m m _ _ (Ok (Pair s)) (Ok (Pair s)) (accepted (Some s) is) (refl, refl))

  pub visit_on : v ≡ Ok None → (r : Result Stepped Fault) (e : S) → Trace did m (calls_from blocks (32768 - (p + 1)) (p + 1) 0) (step_from blocks (32768 - (p + 1)) (p + 1) 0) r e
      → Trace did d (calls_from blocks (32768 - p) p n) (step_from blocks (32768 - p) p n) r e
  visit_on is r e t =
      whole None is r e
      (trace_then did (visit_calls blocks p) (calls_from blocks k (suc p) 0) d m e _ _ (step_from blocks k (suc p) 0) r (accepted None is)
      (subst (λ (q : ℕ). Trace did m (calls_from blocks k q 0) (step_from blocks k q 0) r e) (add-one p) t))

  pub visit_keeps : blocks_of (M m) ≡ blocks
  visit_keeps =
      reads_keep steps M (lookup_reads (bits_in blocks) p ++ cond (reachable blocks p) ((4 + p) ∷ []) []) d m (visited blocks p n) v
      (subst (λ (cs : List Call). Trace did d cs (visited blocks p n) v m) (sym (visit_reads blocks p)) (visit v refl))
      ∙ same

  module _ (old new : List ℕ) (filled : OnOk v (new ≡ last_page (blocks_of (M d)) p old)) where
    filled_with : (o : Option Shows) → v ≡ Ok o → new ≡ last_page blocks p old
    filled_with o is = subst (λ (r : Result (Option Shows) Fault). OnOk r (new ≡ last_page (blocks_of (M d)) p old)) is filled ∙ ap (λ (b : Blocks). last_page b p old) same

    abbrev page : Result (Option Shows) Fault → List ℕ
    page = page_after (last_page blocks p old) old (page_from blocks k (suc p) 0 (last_page blocks p old))

    page_whole : (o : Option Shows) → v ≡ Ok o → page (Ok o) ≡ page_from blocks (32768 - p) p n old
    page_whole o is = ap page (own o is) ∙ ap (λ (j : ℕ). page_from blocks j p n old) (sym more)

    pub page_found : (s : Shows) → v ≡ Ok (Some s) → new ≡ page_from blocks (32768 - p) p n old
    page_found s is = filled_with (Some s) is ∙ page_whole (Some s) is

    pub page_on : v ≡ Ok None → page_from blocks (32768 - (p + 1)) (p + 1) 0 new ≡ page_from blocks (32768 - p) p n old
    page_on is = ap₂ (λ (q : ℕ) (s : List ℕ). page_from blocks k q 0 s) (add-one p) (filled_with None is) ∙ page_whole None is

-- a step into a buffer that is a page, and into one that is not
module _ {S : Type 0} (did : S → Call → Result Unit Fault → S → Type 0) (blocks : Blocks) (at : Position) (size : ℕ) where
  pub whole_trace : size ≡ 1024 → (d e : S) (r v : Result Stepped Fault) → r ≡ v → Trace did d (calls_from blocks (32768 - at.0) at.0 at.1) (step_from blocks (32768 - at.0) at.0 at.1) v e
      → Trace did d (step_calls blocks at size) (stepped blocks at size) r e
  unfolding step_calls stepped
  whole_trace whole d e r v is t =
      let calls = calls_from blocks (32768 - at.0) at.0 at.1 in
      let answer = step_from blocks (32768 - at.0) at.0 at.1 in
      let not : Result Stepped Fault = Err (fault NotABlock Database 0) in
      let yes = eq-eqb size 1024 whole in
      subst (λ (cs : List Call). Trace did d cs (cond (size == 1024) answer not) r e) (sym (cond-true (size == 1024) calls [] yes))
      (subst (λ (own : Result Stepped Fault). Trace did d calls own r e) (sym (cond-true (size == 1024) answer not yes))
      (subst (λ (w : Result Stepped Fault). Trace did d calls answer w e) (sym is) t))

  pub not_whole : (size ≡ 1024 → ⊥) → (d : S) (f : Fault) → f ≡ fault NotABlock Database 0 → Trace did d (step_calls blocks at size) (stepped blocks at size) (Err f) d
  unfolding step_calls stepped
  not_whole other d f is =
      let calls = calls_from blocks (32768 - at.0) at.0 at.1 in
      let answer = step_from blocks (32768 - at.0) at.0 at.1 in
      let not : Result Stepped Fault = Err (fault NotABlock Database 0) in
      let no = ne_eqb size 1024 other in
      subst (λ (cs : List Call). Trace did d cs (cond (size == 1024) answer not) (Err f) d) (sym (cond-false (size == 1024) calls [] no))
      (ap Err is ∙ sym (cond-false (size == 1024) answer not no), refl)
