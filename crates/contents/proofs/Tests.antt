-- The tests of a page, and the place of a value on it.
use Rattle.std.proofs.Common.{◌≡◌, ℕ, zero, suc, ◌+◌, ◌*◌, ◌%◌, ◌<◌, ◌≤◌, Bool, true, false, not, ◌&&◌, leb, ltb, List, [], length, Option, Some, None, option_map, is_some, find, Decides, sym, refl, ap, ◌∙◌, subst, ⊎_elim, arith}
use Rattle.contents.specs.Contents.{pairs_in}
use Rattle.contents.specs.Laws.{PlaceFound, TestsGood}
use Rattle.contents.specs.Test.{each_below, is_good, place_of}
use Rattle.keys.proofs.Sames.{laws}
use Rattle.keys.specs.Same.{same}
use Rattle.pages.proofs.Held.{good_in}
use Rattle.pages.proofs.Looks.{found_at, page_none}
use Rattle.pages.specs.Blank.{bytes_of}
use Rattle.pages.specs.Check.{Checked}
use Rattle.pages.specs.Page.{Apart, Good, Laid, Pair, count, key_at, key_end, key_of, pairs, pairs_of, val_at}
use Rattle.pages.specs.Read.{Found, Place, Which, key_place, val_place}
use Rattle.pages.specs.declared.page.PairPage.{PairPage}
use Rattle.std.proofs.lemmas.Bool.{both_ways, cases_eq, cases_order, cond-true, cond-false, cond_both, false_from_ne_true, le-leb, leb-true, not-true, not_from_false}
use Rattle.std.proofs.lemmas.Bool.Decides.{Decides-and, Decides-by_and, Decides-eqb, Decides-like, Decides-ltb}
use Rattle.std.proofs.lemmas.List.FromFn.{get_or-range_with_len, length-range_with_len}
use Rattle.std.proofs.lemmas.Option.{none-some, same_Some}
use Rattle.std.specs.List.{list_all, range_with_len}

-- a test of each number below n
each_decides : (test : ℕ → Bool) (P : ℕ → Type 0) → ((k : ℕ) → Decides (test k) (P k)) → (n : ℕ) → Decides (each_below test n) ((k : ℕ) → k < n → P k)
each_decides test P each n =
    Decides-like (each_below test n)
    (λ all k l. subst P (get_or-range_with_len 0 n k 0 l ∙ omega arith) (all k 0 (omega (arith, length-range_with_len 0 n))))
    (λ h k d l.
    let lt : k < n = omega (arith, length-range_with_len 0 n) in
    subst P (sym (get_or-range_with_len 0 n k d lt ∙ omega arith)) (h k lt))
    (Decides-by_and test P (list_all test) each refl (λ _ _. refl) (range_with_len 0 n))

leb_decides : (a b : ℕ) → Decides (leb a b) (a ≤ b)
leb_decides a b = (leb-true a b, le-leb a b)

laid_decides : (page : List ℕ) (m : ℕ) → Decides (each_below (λ k. ltb (key_at page k) (key_end page k) && leb (val_at page k) (key_at page k)) m) (Laid page m)
laid_decides page m =
    each_decides _ (λ k. (key_at page k < key_end page k) × (val_at page k ≤ key_at page k))
    (λ k. Decides-and _ _ (Decides-ltb (key_at page k) (key_end page k)) (leb_decides (val_at page k) (key_at page k))) m

-- each pair (i, j) with i below j, asked j by j
apart_decides : (page : List ℕ) (m : ℕ) → Decides (each_below (λ j. each_below (λ i. not (same (key_of page i) (key_of page j))) j) m) (Apart page m)
apart_decides page m =
    Decides-like _ (λ h i j l. h j l.1 i l.0) (λ h j l i k. h i j (k, l))
    (each_decides _ (λ j. (i : ℕ) → i < j → same (key_of page i) (key_of page j) ≡ false)
    (λ j. each_decides _ (λ i. same (key_of page i) (key_of page j) ≡ false)
    (λ i. let s = same (key_of page i) (key_of page j) in (not-true s, not_from_false s)) j) m)

pub tests_good : TestsGood
unfolding is_good
tests_good page =
    let n = pairs page in
    Decides-like _
    (λ h. record { whole = h.0.0.0.0.0; even = h.0.0.0.0.1; few = h.0.0.0.1; laid = h.0.0.1; room = h.0.1; apart = h.1 })
    (λ g. (((((g.whole, g.even), g.few), g.laid), g.room), g.apart))
    (Decides-and _ _
    (Decides-and _ _
    (Decides-and _ _
    (Decides-and _ _
    (Decides-and _ _ (Decides-eqb (length page) 1024) (Decides-eqb (count page % 2) 0))
    (leb_decides (count page) 510))
    (laid_decides page n))
    (leb_decides (2 * (count page + 1)) (key_end page n)))
    (apart_decides page n))

-- what a search of the n numbers from a on finds: one that passes, or none does
abbrev Passing : (ℕ → Bool) → ℕ → ℕ → Option ℕ → Type 0
Passing test a n None = (k : ℕ) → a ≤ k → k < a + n → test k ≡ false
Passing test a n (Some k) = (k < a + n) × (test k ≡ true)

passing_later : (test : ℕ → Bool) (a n : ℕ) (o : Option ℕ) → test a ≡ false → Passing test (a + 1) n o → Passing test a (suc n) o
passing_later test a n None fails h =
    λ k l m. ⊎_elim (λ (e : k ≡ a). ap test e ∙ fails) (λ (ne : k ≡ a → ⊥). h k (omega arith) (omega arith)) (cases_eq k a)
passing_later test a n (Some k) fails h = (omega (arith, h.0), h.1)

find_passing : (test : ℕ → Bool) (a n : ℕ) → Passing test a n (find test (range_with_len a n))
find_passing test a zero = λ k l m. absurd (omega arith)
find_passing test a (suc n) =
    cond_both (test a) (Some a) (find test (range_with_len (a + 1) n)) (Passing test a (suc n))
    (λ passes. (omega arith, passes))
    (λ fails. passing_later test a n _ fails (find_passing test (a + 1) n))

which_passing : (page key : List ℕ) (m : ℕ) (o : Option ℕ) → Passing (λ k. same (key_of page k) key) 0 m o → Which page m key o
which_passing page key m None h = λ i l. h i (omega arith) (omega arith)
which_passing page key m (Some k) h = (omega (arith, h.0), h.1)

found_from : (page key : List ℕ) (o : Option ℕ) → Good page → Which page (pairs page) key o → Found page key (option_map (val_place page) o)
found_from page key None good w = page_none page key w
found_from page key (Some k) good w = found_at page key k (key_place page k, val_place page k) good.apart w.1 (w.0, refl)

pub place_found : PlaceFound
unfolding place_of
place_found page key good =
    let test : ℕ → Bool = λ k. same (key_of page k) key in
    let n = pairs page in
    found_from page key _ good (which_passing page key n _ (find_passing test 0 n))

-- two pairs of a good page with one key are one pair
one_number : (page : List ℕ) (i j : ℕ) → Good page → i < pairs page → j < pairs page → key_of page i ≡ key_of page j → i ≡ j
one_number page i j good li lj e =
    ⊎_elim (λ q. q) (λ w. absurd (⊎_elim (λ l. apart i j l lj e) (λ l. apart j i l li (sym e)) w)) (cases_order i j)
  where
    apart : (i j : ℕ) → i < j → j < pairs page → key_of page i ≡ key_of page j → ⊥
    apart i j l m e =
        both_ways (same (key_of page i) (key_of page j)) (good.apart i j (l, m)) (ap (same (key_of page i)) (sym e) ∙ laws.reflexive (key_of page i))

-- a search has one answer
one_found : (page key : List ℕ) (r s : Option Place) → Good page → Found page key r → Found page key s → r ≡ s
one_found page key None None good f g = refl
one_found page key None (Some p) good f g = absurd (none-some _ (sym f ∙ g.3))
one_found page key (Some p) None good f g = absurd (none-some _ (sym g ∙ f.3))
one_found page key (Some p) (Some q) good f g =
    let e = one_number page f.0 g.0 good f.1 g.1 (ap (λ (x : Pair). x.0) (same_Some _ _ (sym f.3 ∙ g.3))) in
    ap Some (f.2 ∙ ap (val_place page) e ∙ sym g.2)

-- what a search answers is the place
pub found_place : (page key : List ℕ) → Good page → (r : Option Place) → Found page key r → r ≡ place_of page key
found_place page key good r f = one_found page key r (place_of page key) good f (place_found page key good)

-- the test of a page, from what is known of it
pub good_yes : (page : List ℕ) → Good page → is_good page ≡ true
good_yes page good = (tests_good page).1 good

pub good_no : (page : List ℕ) → (Good page → ⊥) → is_good page ≡ false
good_no page bad = false_from_ne_true (is_good page) (λ t. bad ((tests_good page).0 t))

-- a page that was read is good
pub good_read : (p : PairPage) → is_good (bytes_of p.good) ≡ true
good_read p = good_yes (bytes_of p.good) (good_in p)

-- a check answers a page exactly where the test is true
pub good_checked : (page : List ℕ) (r : Option PairPage) → Checked page r → is_good page ≡ is_some r
good_checked page None bad = good_no page bad
good_checked page (Some p) checked = good_yes page checked.0

-- the pairs of a page, from what is known of it
pub pairs_good : (page : List ℕ) → Good page → pairs_in page ≡ pairs_of page
pairs_good page good = cond-true (is_good page) (pairs_of page) [] (good_yes page good)

pub pairs_bad : (page : List ℕ) → (Good page → ⊥) → pairs_in page ≡ []
pairs_bad page bad = cond-false (is_good page) (pairs_of page) [] (good_no page bad)
