-- What a visit of a page calls, answers and leaves.
use Rattle.std.proofs.Common.{◌≡◌, ℕ, ◌+◌, ◌<◌, Bool, true, false, eqb, ◌==◌, List, [], ◌∷◌, ◌++◌, Option, None, Ok, Err, Result, inr, refl, sym, ap, ◌∙◌, subst, arith}
use mathlib.Core.Path.{fun_ext}
use Rattle.contents.specs.Blocks.{Blocks, bits_in, blocks_of, page_in}
use Rattle.contents.specs.Test.{is_good}
use Rattle.calls.specs.Fetch.{home_page}
use Rattle.calls.specs.Step.{Shows, first_home, last_page, reachable, visit_calls, visited}
use Rattle.devices.proofs.Traces.{trace_then}
use Rattle.devices.specs.Meaning.{Meaning}
use Rattle.devices.specs.Step.{Call, Filled, read}
use Rattle.devices.specs.Trace.{Account, Did, Trace}
use Rattle.directory.proofs.Lookups.{home_test}
use Rattle.directory.specs.Ending.{leaf_of}
use Rattle.directory.specs.Tree.{low, page_of}
use Rattle.directory.specs.declared.Leaf.{Leaf}
use Rattle.faults.specs.declared.Fault.{Fault}
use Rattle.keys.specs.Hash.{hash}
use Rattle.lookup.proofs.Reading.{filled_shown, reads_keep}
use Rattle.lookup.specs.Pages.{bad_page}
use Rattle.lookup.specs.Reads.{lookup_calls, lookup_reads, reads}
use Rattle.std.proofs.lemmas.Bool.{cond-false, cond-true, eq-eqb, ne_eqb}

-- the leaf at which the lookup of a page's number ends
module _ (blocks : Blocks) (p : ℕ) (leaf : Leaf) (found : leaf ≡ leaf_of (bits_in blocks) p) where
  page_is : leaf.page ≡ page_of (bits_in blocks) p
  page_is = ap (λ (l : Leaf). l.page) found

  pub at_page : leaf.page ≡ p → reachable blocks p ≡ true
  at_page at = eq-eqb (page_of (bits_in blocks) p) p (sym page_is ∙ at)

  pub at_other : (leaf.page ≡ p → ⊥) → reachable blocks p ≡ false
  at_other other = ne_eqb (page_of (bits_in blocks) p) p (λ e. other (page_is ∙ e))

  -- a key belongs to the leaf of a page exactly when it is at home there
  pub first_is_home : (page : List ℕ) (n : ℕ) → leaf.page ≡ p
      → first_home (λ key. low (hash key) leaf.depth == leaf.page) page leaf.page n ≡ first_home (λ key. home_page blocks key == p) page p n
  first_is_home page n at =
      let bits = bits_in blocks in
      let same : (key : List ℕ) → eqb (low (hash key) leaf.depth) leaf.page ≡ eqb (home_page blocks key) p =
      λ key. ap (λ (l : Leaf). eqb (low (hash key) l.depth) l.page) found ∙ home_test bits (hash key) p ∙ ap (eqb (home_page blocks key)) (sym page_is ∙ at) in
      ap (λ (test : List ℕ → Bool). first_home test page leaf.page n) (fun_ext same)
      ∙ ap (λ (q : ℕ). first_home (λ key. home_page blocks key == p) page q n) at

-- a page at which a lookup ends, and one at which none does
module _ (blocks : Blocks) (p : ℕ) (here : reachable blocks p ≡ true) where
  pub here_calls : visit_calls blocks p ≡ lookup_calls blocks p ++ reads ((4 + p) ∷ [])
  here_calls = ap (λ (cs : List Call). lookup_calls blocks p ++ cs) (cond-true (reachable blocks p) (reads ((4 + p) ∷ [])) [] here)

  pub here_page : (old : List ℕ) → last_page blocks p old ≡ page_in blocks p
  here_page old = cond-true (reachable blocks p) (page_in blocks p) old here

  pub here_bad : (n : ℕ) → is_good (page_in blocks p) ≡ false → visited blocks p n ≡ Err (bad_page (4 + p))
  unfolding visited
  here_bad n bad =
      let page = page_in blocks p in
      let good : Result (Option Shows) Fault = Ok (first_home (λ key. home_page blocks key == p) page p n) in
      cond-true (reachable blocks p) _ (Ok None) here ∙ cond-false (is_good page) good (Err (bad_page (4 + p))) bad

  pub here_good : (n : ℕ) → is_good (page_in blocks p) ≡ true → visited blocks p n ≡ Ok (first_home (λ key. home_page blocks key == p) (page_in blocks p) p n)
  unfolding visited
  here_good n good_page =
      let page = page_in blocks p in
      let good : Result (Option Shows) Fault = Ok (first_home (λ key. home_page blocks key == p) page p n) in
      cond-true (reachable blocks p) _ (Ok None) here ∙ cond-true (is_good page) good (Err (bad_page (4 + p))) good_page

module _ (blocks : Blocks) (p : ℕ) (past : reachable blocks p ≡ false) where
  pub past_calls : visit_calls blocks p ≡ lookup_calls blocks p ++ []
  past_calls = ap (λ (cs : List Call). lookup_calls blocks p ++ cs) (cond-false (reachable blocks p) (reads ((4 + p) ∷ [])) [] past)

  pub past_page : (old : List ℕ) → last_page blocks p old ≡ old
  past_page old = cond-false (reachable blocks p) (page_in blocks p) old past

  pub past_none : (n : ℕ) → visited blocks p n ≡ Ok None
  unfolding visited
  past_none n = cond-false (reachable blocks p) _ (Ok None) past

-- after calls that were all accepted, a read that was accepted too, and the answer
module _ {S X Y : Type 0} (steps : Account S) (M : S → Meaning) (cs : List Call) (d m e : S) (x y : X) (own : Result Y Fault) (n size : ℕ) where
  abbrev did : S → Call → Result Unit Fault → S → Type 0
  did = Did steps M

  read_answered : size ≡ 1024 → (r : Result Y Fault) → r ≡ own → did m (read n size) (Ok tt) e → Trace did m (reads (n ∷ [])) own r e
  read_answered whole (Ok z) is s = (e, subst (λ (k : ℕ). did m (read n k) (Ok tt) e) whole s, (is, refl))
  read_answered whole (Err f) is s = inr (e, subst (λ (k : ℕ). did m (read n k) (Ok tt) e) whole s, (is, refl))

  pub read_then : size ≡ 1024 → (r : Result Y Fault) → r ≡ own → Trace did d cs (Ok x) (Ok y) m → did m (read n size) (Ok tt) e → Trace did d (cs ++ reads (n ∷ [])) own r e
  read_then whole r is t s = trace_then did cs (reads (n ∷ [])) d m e x y own r t (read_answered whole r is s)

-- after an accepted lookup, the page that was read is the one that the blocks had at its entry
pub read_page : {S X : Type 0} (steps : Account S) (M : S → Meaning) (p : ℕ) (d m e : S) (own r : Result X Fault) → Trace (Did steps M) d (lookup_calls (blocks_of (M d)) p) own r m
    → p < 32768 → (size : ℕ) (old new : List ℕ) → size ≡ 1024 → Did steps M m (read (4 + p) size) (Ok tt) e → Filled (M m) (4 + p) (Ok tt) old new → new ≡ page_in (blocks_of (M d)) p
read_page steps M p d m e own r t below size old new whole s filled =
    filled_shown steps M m e (4 + p) size (Ok tt) old new (omega (arith, below)) whole s filled
    ∙ ap (λ (b : Blocks). b (4 + p)) (reads_keep steps M (lookup_reads (bits_in (blocks_of (M d))) p) d m own r t)
