-- When one more pair fits, and the page without a key.
use Rattle.pages.specs.Blank.{bytes_of}
use Rattle.pages.specs.declared.page.PairPage.{PairPage}
use Rattle.pages.proofs.Held.{good_in}
use Rattle.std.proofs.Common.{◌≡◌, ℕ, zero, suc, ◌+◌, ◌*◌, ◌<◌, ◌≤◌, Bool, true, false, not, Option, Some, List, [], ◌∷◌, length, filter, AllPairs, is_some, None, Decides, sym, refl, ap, ◌∙◌, subst, ⊎_elim, arith, length-append}
use Rattle.keys.specs.Same.{same}
use Rattle.pages.proofs.Looks.{length_pairs, none, page_none, page_some, pair_at}
use Rattle.pages.proofs.Pages.{not_both, not_true}
use Rattle.keys.proofs.Sames.{laws}
use Rattle.pages.specs.Page.{Bytes, Good, Pair, key_of, look, pairs, pairs_of}
use Rattle.pages.specs.Read.{Which}
use Rattle.page_edits.proofs.Cut.{size_append}
use Rattle.page_edits.proofs.Kept.{cost_kept}
use Rattle.page_edits.proofs.One.{fits_good}
use Rattle.page_edits.proofs.Packs.{push_room}
use Rattle.page_edits.specs.Bytes.{Packed}
use Rattle.page_edits.specs.Edit.{dropped, falling, falls, with_pair}
use Rattle.page_edits.specs.Write.{Fits, key_in, size}
use Rattle.std.proofs.ByRecursion.{All-get_or as recursion-get_or, All-push}
use Rattle.std.proofs.lemmas.List.Elements.{All-filter, All-from_recursion, All-get_or, filter_passes, recursion_from_All}
use Rattle.std.proofs.lemmas.List.Kept.{AllPairs-filter}
use Rattle.std.proofs.lemmas.List.{get_or_append_left, get_or_at, get_or_default}
use Rattle.std.proofs.lemmas.Bool.{cases_eq, cases_order, not-true}
use Rattle.std.specs.List.{remove}

-- a test that fails, of what cannot be
no_from : {P : Type 0} → (P → ⊥) → Decides false P
no_from never = (λ e. absurd (not_both false e refl), λ p. absurd (never p))

module _ (ps : List Pair) (key value : List ℕ) where
  abbrev more : List Pair
  more = with_pair ps key value

  last : key_in more (length ps) ≡ key
  last = ap (λ (p : Pair). p.0) (get_or_at ps (key, value) [] none (length ps) refl)

  front : (i : ℕ) → i < length ps → key_in more i ≡ key_in ps i
  front i h = ap (λ (p : Pair). p.0) (get_or_append_left ps ((key, value) ∷ []) none i h)

  many : length more ≡ length ps + 1
  many = length-append ps ((key, value) ∷ [])

  fits_named : Fits more → 0 < length key
  fits_named f =
      subst (λ (k : List ℕ). 0 < length k) last (recursion-get_or (λ p. 0 < length p.0) more (length ps) none (omega (arith, many)) f.named)

  pub fits_new : Fits more → (i : ℕ) → i < length ps → same (key_in ps i) key ≡ false
  fits_new f i h =
      let a = front i h in
      let b = last in
      let e = f.apart i (length ps) (h, omega (arith, many)) in cc

  -- a packing can take a pair that fits
  pub fits_taken : Fits more → (out : List ℕ) (j free : ℕ) → Packed ps out j free → (0 < length key) × (4 * j + 6 + (length key + length value) ≤ free)
  fits_taken f out j free packed = (fits_named f, push_room ps key value out j free packed f.room)

  pub fits_push : Fits ps → 0 < length key → ((i : ℕ) → i < length ps → same (key_in ps i) key ≡ false) → 6 + (4 * length ps + size ps) + (length key + length value) ≤ 1024 → Fits more
  fits_push f named new room = record {
    named = All-push (λ p. 0 < length p.0) ps (key, value) f.named named;
    apart = λ i j h.
        let li : i < length ps = omega (arith, many) in
        let a = front i li in
        ⊎_elim
        (λ (e : j ≡ length ps).
        let b : key_in more j ≡ key = ap (key_in more) e ∙ last in
        let n = new i li in
        let r : same (key_in more i) (key_in more j) ≡ false = cc in r)
        (λ (ne : j ≡ length ps → ⊥).
        let lj : j < length ps = omega (arith, many) in
        let b = front j lj in
        let n = f.apart i j (h.0, lj) in
        let r : same (key_in more i) (key_in more j) ≡ false = cc in r)
        (cases_eq j (length ps));
    room = omega (arith, many, size_append ps ((key, value) ∷ []));
  }

module _ (page : List ℕ) (bytes : Bytes page) (g : Good page) where
  key_at : (i : ℕ) → i < pairs page → key_in (pairs_of page) i ≡ key_of page i
  key_at i h = ap (λ (p : Pair). p.0) (pair_at page i none h)

  pub page_fits : (key value : List ℕ) → 0 < length key → Which page (pairs page) key None → 6 + (4 * length (pairs_of page) + size (pairs_of page)) + (length key + length value) ≤ 1024 → Fits (with_pair (pairs_of page) key value)
  page_fits key value named new room =
      fits_push (pairs_of page) key value (fits_good page bytes g) named
      (λ i h. let l : i < pairs page = omega (arith, length_pairs page) in let a = key_at i l in let n = new i l in cc) room

  pub page_new : (key value : List ℕ) → Fits (with_pair (pairs_of page) key value) → (k : ℕ) → k < pairs page → same (key_of page k) key ≡ false
  page_new key value f k h =
      let a = key_at k h in
      let n = fits_new (pairs_of page) key value f k (omega (arith, length_pairs page)) in cc

-- a search for the key, where it is not empty and there is room
pub found_fits : (p : PairPage) (key value : List ℕ) (found : Option ℕ) (none : Bool) → Which (bytes_of p.good) (pairs (bytes_of p.good)) key found → is_some found ≡ not none
    → 0 < length key → 6 + (4 * length (pairs_of (bytes_of p.good)) + size (pairs_of (bytes_of p.good))) + (length key + length value) ≤ 1024 → Decides none (Fits (with_pair (pairs_of (bytes_of p.good)) key value))
found_fits p key value None true new e named room = (λ _. page_fits (bytes_of p.good) p.typed (good_in p) key value named new room, λ _. refl)
found_fits p key value None false new e named room = absurd (not_both true refl (sym e))
found_fits p key value (Some k) true at e named room = absurd (not_both true refl e)
found_fits p key value (Some k) false at e named room =
    no_from (λ f. not_both _ at.1 (page_new (bytes_of p.good) p.typed (good_in p) key value f k at.0))

-- a part of a list that fits fits too
pub fits_part : (test : Pair → Bool) (ps : List Pair) → Fits ps → Fits (filter test ps)
fits_part test ps f = record {
  named = recursion_from_All (λ p. 0 < length p.0) (filter test ps) (All-filter test (λ p. 0 < length p.0) ps (All-from_recursion (λ p. 0 < length p.0) ps f.named));
  apart = λ i j h. AllPairs-filter (λ p q. same p.0 q.0 ≡ false) test ps pairs i j none h.0 h.1;
  room = omega (arith, cost_kept test ps, f.room);
}
  where
    pairs : AllPairs (λ p q. same p.0 q.0 ≡ false) ps
    pairs i j d a b =
        let x = ap (λ (p : Pair). p.0) (get_or_default ps i d none (omega arith)) in
        let y = ap (λ (p : Pair). p.0) (get_or_default ps j d none b) in
        let n = f.apart i j (a, b) in cc

-- a list from which a key was dropped does not have it
pub dropped_lacks : (key : List ℕ) (ps : List Pair) (i : ℕ) → i < length (dropped key ps) → same (key_in (dropped key ps) i) key ≡ false
dropped_lacks key ps i l =
    not-true (same (key_in (dropped key ps) i) key)
    (All-get_or (λ p. not (same p.0 key) ≡ true) (dropped key ps) i none l (filter_passes (λ p. not (same p.0 key)) ps))

-- the pairs of a page that are kept, with a new pair in the place of the key's own
pub replaced_fits : (p : PairPage) (key value : List ℕ) (bits low : ℕ) → 0 < length key
    → (let ps = dropped key (falling bits low (pairs_of (bytes_of p.good))) in 6 + (4 * length ps + size ps) + (length key + length value) ≤ 1024 → Fits (with_pair ps key value))
replaced_fits p key value bits low named room =
    let ps = falling bits low (pairs_of (bytes_of p.good)) in
    let fits = fits_part (λ q. falls bits low q.0) (pairs_of (bytes_of p.good)) (fits_good (bytes_of p.good) p.typed (good_in p)) in
    fits_push (dropped key ps) key value (fits_part (λ q. not (same q.0 key)) ps fits) named (dropped_lacks key ps) room

-- without a key that is not there
pub dropped_none : (key : List ℕ) (ps : List Pair) → ((i : ℕ) → i < length ps → same (key_in ps i) key ≡ false) → dropped key ps ≡ ps
dropped_none key [] h = refl
dropped_none key (p ∷ ps) h = rw (h 0 (omega arith)) (ap (λ (q : List Pair). p ∷ q) (dropped_none key ps (λ i l. h (suc i) (omega arith))))

-- without the key of pair k, when no other has it
pub dropped_one : (key : List ℕ) (ps : List Pair) (k : ℕ) → k < length ps → same (key_in ps k) key ≡ true → ((i : ℕ) → i < length ps → (i ≡ k → ⊥) → same (key_in ps i) key ≡ false) → dropped key ps ≡ remove ps k
dropped_one key [] k lt e h = absurd (omega arith)
dropped_one key (p ∷ ps) zero lt e h = rw e (dropped_none key ps (λ i l. h (suc i) (omega arith) (λ q. omega arith)))
dropped_one key (p ∷ ps) (suc k) lt e h =
    rw (h 0 (omega arith) (λ q. omega arith))
    (ap (λ (q : List Pair). p ∷ q) (dropped_one key ps k (omega arith) e (λ i l ne. h (suc i) (omega arith) (λ q. ne (omega arith)))))

-- the page without the key
module _ (p : PairPage) (key : List ℕ) where
  abbrev page : List ℕ
  page = bytes_of p.good

  pub without_none : Which page (pairs page) key None → (false ≡ is_some (look key (pairs_of page))) × (pairs_of page ≡ dropped key (pairs_of page))
  without_none new = (
    ap is_some (sym (page_none page key new)),
    sym (dropped_none key (pairs_of page) (λ i h. let l : i < pairs page = omega (arith, length_pairs page) in let a = key_at page p.typed (good_in p) i l in let n = new i l in cc)),
  )

  pub without_one : (k : ℕ) → k < pairs page → same (key_of page k) key ≡ true → (true ≡ is_some (look key (pairs_of page))) × (remove (pairs_of page) k ≡ dropped key (pairs_of page))
  without_one k lt e = (
    ap is_some (sym (page_some page key k p.apart lt e)),
    sym (dropped_one key (pairs_of page) k (omega (arith, length_pairs page))
        (let a = key_at page p.typed (good_in p) k lt in cc)
        (λ i h ne.
        let l : i < pairs page = omega (arith, length_pairs page) in
        let a = key_at page p.typed (good_in p) i l in
        let o = others i l ne in cc)),
  )
    where
      others : (i : ℕ) → i < pairs page → (i ≡ k → ⊥) → same (key_of page i) key ≡ false
      others i l ne =
          not_true (same (key_of page i) key)
          (λ t.
          let ik = laws.transitive (key_of page i) key (key_of page k) t (laws.symmetric (key_of page k) key e) in
          ⊎_elim ne
          (⊎_elim
          (λ (h : i < k). not_both _ ik (p.apart i k (h, lt)))
          (λ (h : k < i). not_both _ (laws.symmetric _ _ ik) (p.apart k i (h, l))))
          (cases_order i k))
