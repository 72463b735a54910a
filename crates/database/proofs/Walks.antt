-- What a step shows is the first pair that remains.
use Rattle.std.proofs.Common.{◌≡◌, ℕ, zero, suc, ◌+◌, ◌-◌, ◌<◌, ◌≤◌, ◌==◌, Bool, true, false, cond, List, ◌∷◌, length, get_or, Option, Some, None, option_map, find, Ok, Err, Result, sym, ap, ap₂, ◌∙◌, subst, add-one, arith}
use Rattle.contents.proofs.Held.{contents_bits, contents_pages}
use Rattle.contents.proofs.Tests.{pairs_good, tests_good}
use Rattle.contents.proofs.Walks.{AtHome, NoneFrom, hit, over, pass, skip}
use Rattle.contents.specs.Blocks.{Blocks, bits_in, page_in}
use Rattle.contents.specs.Contents.{Contents, contents_of, remaining}
use Rattle.contents.specs.Test.{is_good}
use Rattle.database.proofs.Finds.{First, find_first}
use Rattle.database.proofs.Visits.{here_page}
use Rattle.calls.specs.Fetch.{home_page}
use Rattle.calls.specs.Shown.{ShowsNext}
use Rattle.calls.specs.Step.{Shows, first_home, last_page, onward, page_from, pair_shown, reachable, step_from, visited}
use Rattle.calls.specs.declared.Stepped.{Stepped}
use Rattle.calls.specs.declared.Stepped.TheVariants.{End, Pair}
use Rattle.directory.specs.Tree.{page_of}
use Rattle.faults.specs.declared.Fault.{Fault}
use Rattle.keys.specs.Hash.{hash}
use Rattle.lookup.specs.Pages.{bad_page}
use Rattle.pages.proofs.Looks.{length_pairs, none, pair_at}
use Rattle.pages.specs.Page.{Pair as Pairs, key_of, pair_of, pairs, pairs_of}
use Rattle.pages.specs.Read.{bytes_at}
use Rattle.std.proofs.lemmas.Bool.{both_ways, cond_both, eq-eqb, eqb-true}
use Rattle.std.specs.Bool.{⊤}
use Rattle.std.specs.List.{range_with_len}

-- what a visit shows: the first pair that remains, or that the page has none left
abbrev VisitShows : Contents → ℕ → ℕ → Result (Option Shows) Fault → List ℕ → Type 0
VisitShows c p n (Ok None) page = remaining c (p, n) ≡ remaining c (suc p, 0)
VisitShows c p n (Ok (Some s)) page = remaining c (p, n) ≡ (bytes_at page s.0, bytes_at page s.1) ∷ remaining c s.2
VisitShows c p n (Err f) page = ⊤

-- the answer of a visit, or of the visits after it
module _ (c : Contents) (p n : ℕ) where
  onward_shows : (v : Result (Option Shows) Fault) (own : Result Stepped Fault) (page old rest : List ℕ) → VisitShows c p n v page → ShowsNext c (suc p, 0) own rest
      → ShowsNext c (p, n) (onward v (λ s. Ok (Pair s)) (λ f. Err f) own) (onward v (λ _. page) (λ _. old) rest)
  onward_shows (Ok None) (Ok (Pair s)) page old rest here later = here ∙ later
  onward_shows (Ok None) (Ok End) page old rest here later = here ∙ later
  onward_shows (Ok None) (Err f) page old rest here later = tt
  onward_shows (Ok (Some s)) own page old rest here later = here
  onward_shows (Err f) own page old rest here later = tt

-- a page as the contents have it
module _ (blocks : Blocks) (p : ℕ) (l : p < 32768) where
  abbrev c : Contents
  c = contents_of blocks

  abbrev page : List ℕ
  page = page_in blocks p

  abbrev at_home : ℕ → Bool
  at_home i = home_page blocks (key_of page i) == p

  module _ (good : is_good page ≡ true) where
    stand : c.pages p ≡ pairs_of page
    stand = contents_pages blocks p ∙ pairs_good page ((tests_good page).0 good)

    many : length (c.pages p) ≡ pairs page
    many = ap length stand ∙ length_pairs page

    pair_is : (i : ℕ) → i < pairs page → get_or (c.pages p) i none ≡ pair_of page i
    pair_is i k = ap (λ (ps : List Pairs). get_or ps i none) stand ∙ pair_at page i none k

    home_is : (i : ℕ) → i < pairs page → page_of c.bits (hash (get_or (c.pages p) i none).0) ≡ home_page blocks (key_of page i)
    home_is i k = ap₂ (λ (bits : ℕ → Bool) (x : Pairs). page_of bits (hash x.0)) (contents_bits blocks) (pair_is i k)

    nobody : (n i : ℕ) → ((k : ℕ) → n ≤ k → k < i → at_home k ≡ false) → i ≤ pairs page → NoneFrom c p n i
    nobody n i fails m = λ k a b h. let k' : k < pairs page = omega arith in both_ways (at_home k) (fails k a b) (eq-eqb (home_page blocks (key_of page k)) p (sym (home_is k k') ∙ h.1))

    somebody : (i : ℕ) → i < pairs page → at_home i ≡ true → AtHome c p i
    somebody i k is = (omega (arith, many), home_is i k ∙ eqb-true (home_page blocks (key_of page i)) p is)

    found_shows : (n : ℕ) (o : Option ℕ) → page_of c.bits p ≡ p → First at_home n (pairs page) o → VisitShows c p n (Ok (option_map (pair_shown page p) o)) page
    found_shows n None here f = pass c p n l (subst (NoneFrom c p n) (sym many) (nobody n (pairs page) f (omega arith)))
    found_shows n (Some i) here f =
        hit c p n i l here f.0 (somebody i f.1 f.2) (nobody n i f.3 (omega (arith, f.1)))
        ∙ ap₂ (λ (x : Pairs) (j : ℕ). x ∷ remaining c (p, j)) (pair_is i f.1) (sym (add-one i))

  visit_shows : (n : ℕ) (old : List ℕ) → VisitShows c p n (visited blocks p n) (last_page blocks p old)
  unfolding visited
  visit_shows n old =
      let first : Result (Option Shows) Fault = Ok (first_home (λ key. home_page blocks key == p) page p n) in
      let read : Result (Option Shows) Fault = cond (is_good page) first (Err (bad_page (4 + p))) in
      let bits = ap (λ (bits : ℕ → Bool). page_of bits p) (contents_bits blocks) in
      cond_both (reachable blocks p) read (Ok None) (λ v. VisitShows c p n v (last_page blocks p old))
      (λ here.
      subst (VisitShows c p n read) (sym (here_page blocks p here old))
      (cond_both (is_good page) first (Err (bad_page (4 + p))) (λ v. VisitShows c p n v page)
      (λ good. found_shows good n (find at_home (range_with_len n (pairs page - n))) (bits ∙ eqb-true (page_of (bits_in blocks) p) p here) (find_first at_home n (pairs page)))
      (λ bad. tt)))
      (λ past. skip c p n l (λ r. both_ways (reachable blocks p) past (eq-eqb (page_of (bits_in blocks) p) p (sym bits ∙ r))))

pub step_shows : (blocks : Blocks) (k p n : ℕ) (old : List ℕ) → 32768 - p ≡ k → ShowsNext (contents_of blocks) (p, n) (step_from blocks k p n) (page_from blocks k p n old)
step_shows blocks zero p n old e = over (contents_of blocks) p n (omega arith)
step_shows blocks (suc k) p n old e =
    let page = last_page blocks p old in
    onward_shows (contents_of blocks) p n (visited blocks p n) (step_from blocks k (suc p) 0) page old (page_from blocks k (suc p) 0 page)
    (visit_shows blocks p (omega arith) n old) (step_shows blocks k (suc p) 0 page (omega arith))
