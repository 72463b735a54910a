-- What a delete calls and answers, where its key was accepted.
use Rattle.std.proofs.Common.{◌≡◌, ℕ, ◌+◌, ◌<◌, Bool, true, false, cond, eqb, ◌&&◌, List, [], ◌∷◌, ◌++◌, length, Option, is_some, Ok, Err, Result, inl, refl, sym, ap, ap₂, ◌∙◌, subst, arith}
use Rattle.calls.specs.Delete.{delete_calls, delete_write, deleted, has_key}
use Rattle.calls.specs.Fetch.{home_bytes, home_page}
use Rattle.contents.proofs.Tests.{found_place}
use Rattle.contents.specs.Blocks.{Blocks, bits_in, page_in}
use Rattle.contents.specs.Test.{is_good, place_of}
use Rattle.devices.proofs.Traces.{trace_stop, trace_then}
use Rattle.devices.specs.Step.{Call, fault, write}
use Rattle.devices.specs.Trace.{Trace}
use Rattle.directory.proofs.Lookups.{page_below}
use Rattle.directory.specs.Ending.{leaf_of}
use Rattle.directory.specs.Tree.{page_of}
use Rattle.directory.specs.declared.Leaf.{Leaf}
use Rattle.faults.specs.declared.Fault.{Fault}
use Rattle.faults.specs.declared.Layer.TheVariants.{Database}
use Rattle.faults.specs.declared.Refusal.TheVariants.{EmptyKey}
use Rattle.keys.specs.Hash.{hash}
use Rattle.lookup.proofs.Reading.{answer_is, own_answer}
use Rattle.lookup.specs.Pages.{GoodPage, bad_page}
use Rattle.lookup.specs.Reads.{home_calls}
use Rattle.page_edits.specs.Edit.{dropped, falling}
use Rattle.page_edits.specs.Write.{written}
use Rattle.pages.proofs.Held.{good_in}
use Rattle.pages.specs.Blank.{bytes_of}
use Rattle.pages.specs.Page.{pairs_of}
use Rattle.pages.specs.Read.{Found, Place}
use Rattle.pages.specs.declared.page.PairPage.{PairPage}
use Rattle.std.proofs.lemmas.Bool.{cond-false, cond-true}

module _ {S : Type 0} (did : S → Call → Result Unit Fault → S → Type 0) (blocks : Blocks) (key : List ℕ) (long : eqb (length key) 0 ≡ false) (d : S) where
  abbrev changes : Bool
  changes = is_good (home_bytes blocks key) && has_key blocks key

  abbrev writes : List Call
  writes = cond changes (delete_write blocks key ∷ []) []

  abbrev accepted : Result Bool Fault
  accepted = cond (is_good (home_bytes blocks key)) (Ok (has_key blocks key)) (Err (bad_page (4 + home_page blocks key)))

  calls_asked : delete_calls blocks key ≡ home_calls blocks (hash key) ++ writes
  calls_asked = cond-false (eqb (length key) 0) [] (home_calls blocks (hash key) ++ writes) long

  answer_asked : deleted blocks key ≡ accepted
  answer_asked = cond-false (eqb (length key) 0) (Err (fault EmptyKey Database 0)) accepted long

  -- a delete from d to e, with its answer
  abbrev Deletes : Result Bool Fault → S → Type 0
  Deletes r e = Trace did d (delete_calls blocks key) (deleted blocks key) r e

  -- the same of the lookup of a hash, and the read of the page at which it ends
  abbrev Looks : ℕ → Result Leaf Fault → S → Type 0
  Looks h r e = Trace did d (home_calls blocks h) (Ok (leaf_of (bits_in blocks) h)) r e

  module _ (h : ℕ) (is : h ≡ hash key) where
    pub home_refused : (e : S) (f : Fault) → Looks h (Err f) e → Deletes (Err f) e
    home_refused e f t =
        subst (λ (cs : List Call). Trace did d cs (deleted blocks key) (Err f) e) (sym calls_asked)
        (trace_stop did (home_calls blocks (hash key)) writes d e (leaf_of (bits_in blocks) (hash key)) (deleted blocks key) f (subst (λ (k : ℕ). Looks k (Err f) e) is t))

    module _ (m : S) (leaf : Leaf) (looked : Looks h (Ok leaf) m) where
      leaf_is : leaf ≡ leaf_of (bits_in blocks) (hash key)
      leaf_is = answer_is (own_answer did (home_calls blocks h) d m leaf (Ok (leaf_of (bits_in blocks) h)) looked) ∙ ap (leaf_of (bits_in blocks)) is

      pub page_lt : leaf.page < 32768
      page_lt = omega (arith, ap (λ (l : Leaf). l.page) leaf_is, page_below (bits_in blocks) (hash key))

      then_writes : (e : S) (r : Result Bool Fault) → Trace did m writes (deleted blocks key) r e → Deletes r e
      then_writes e r t =
          subst (λ (cs : List Call). Trace did d cs (deleted blocks key) r e) (sym calls_asked)
          (trace_then did (home_calls blocks (hash key)) writes d m e (leaf_of (bits_in blocks) (hash key)) leaf (deleted blocks key) r (subst (λ (k : ℕ). Looks k (Ok leaf) m) is looked) t)

      unchanged : (r : Result Bool Fault) → changes ≡ false → r ≡ deleted blocks key → Deletes r m
      unchanged r no_change answer =
          then_writes m r (subst (λ (cs : List Call). Trace did m cs (deleted blocks key) r m) (sym (cond-false changes (delete_write blocks key ∷ []) [] no_change)) (answer, refl))

      changed : (e : S) (r : Result Bool Fault) → changes ≡ true → Trace did m (delete_write blocks key ∷ []) (deleted blocks key) r e → Deletes r e
      changed e r change t =
          then_writes e r (subst (λ (cs : List Call). Trace did m cs (deleted blocks key) r e) (sym (cond-true changes (delete_write blocks key ∷ []) [] change)) t)

      -- the home page that was read
      module _ (block : List ℕ) (read : block ≡ page_in blocks (page_of (bits_in blocks) h)) where
        block_is : block ≡ home_bytes blocks key
        block_is = read ∙ ap (λ (k : ℕ). page_in blocks (page_of (bits_in blocks) k)) is

        pub page_bad : (f : Fault) → GoodPage block (4 + leaf.page) (Err f) → Deletes (Err f) m
        page_bad f checked =
            let bad : is_good (home_bytes blocks key) ≡ false = ap is_good (sym block_is) ∙ checked.0 in
            unchanged (Err f) (ap (λ (b : Bool). b && has_key blocks key) bad)
            (ap Err (checked.1 ∙ ap (λ (l : Leaf). bad_page (4 + l.page)) leaf_is)
            ∙ sym (answer_asked ∙ cond-false (is_good (home_bytes blocks key)) (Ok (has_key blocks key)) (Err (bad_page (4 + home_page blocks key))) bad))

        module _ (page : PairPage) (checked : GoodPage block (4 + leaf.page) (Ok page)) (place : Option Place) (at : Found (bytes_of page.good) key place) where
          bytes_are : bytes_of page.good ≡ home_bytes blocks key
          bytes_are = checked.1 ∙ block_is

          good : is_good (home_bytes blocks key) ≡ true
          good = ap is_good (sym block_is) ∙ checked.0

          there : has_key blocks key ≡ is_some place
          there = sym (ap (λ (p : Option Place). is_some p) (found_place (bytes_of page.good) key (good_in page) place at ∙ ap (λ (bytes : List ℕ). place_of bytes key) bytes_are))

          good_answer : deleted blocks key ≡ Ok (has_key blocks key)
          good_answer = answer_asked ∙ cond-true (is_good (home_bytes blocks key)) (Ok (has_key blocks key)) (Err (bad_page (4 + home_page blocks key))) good

          good_changes : changes ≡ is_some place
          good_changes = ap (λ (b : Bool). b && has_key blocks key) good ∙ there

          pub not_there : is_some place ≡ false → Deletes (Ok false) m
          not_there none = unchanged (Ok false) (good_changes ∙ none) (ap Ok (sym (there ∙ none)) ∙ sym good_answer)

          module _ (some : is_some place ≡ true) (out : List ℕ) (kept : out ≡ written (dropped key (falling leaf.depth leaf.page (pairs_of (bytes_of page.good))))) where
            write_is : write (4 + leaf.page) out ≡ delete_write blocks key
            write_is =
                ap (write (4 + leaf.page)) kept
                ∙ ap₂ (λ (l : Leaf) (bytes : List ℕ). write (4 + l.page) (written (dropped key (falling l.depth l.page (pairs_of bytes))))) leaf_is bytes_are

            pub write_refused : (e : S) (f : Fault) → did m (write (4 + leaf.page) out) (Err f) e → Deletes (Err f) e
            write_refused e f s = changed e (Err f) (good_changes ∙ some) (inl (subst (λ (c : Call). did m c (Err f) e) write_is s))

            pub removed : (e : S) → did m (write (4 + leaf.page) out) (Ok tt) e → Deletes (Ok true) e
            removed e s =
                changed e (Ok true) (good_changes ∙ some)
                (e, subst (λ (c : Call). did m c (Ok tt) e) write_is s, (ap Ok (sym (there ∙ some)) ∙ sym good_answer, refl))
