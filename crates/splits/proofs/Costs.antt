-- What the pairs that stay beside a key take of its page.
use Rattle.std.proofs.Common.{◌≡◌, ℕ, ◌+◌, ◌*◌, ◌<◌, ◌≤◌, Bool, true, false, not, ◌&&◌, List, [], ◌∷◌, ◌++◌, length, get_or, take, drop, sym, refl, ap, ◌∙◌, Option, Some, None, MatchOption, is_some, ⊎_elim, arith, le-leb, leb-true, length-append, take-append-drop}
use Rattle.directory.specs.Tree.{low}
use Rattle.keys.specs.Hash.{hash}
use Rattle.keys.specs.Same.{same}
use Rattle.page_edits.proofs.Cut.{size_append}
use Rattle.page_edits.proofs.Kept.{cost, cost_kept}
use Rattle.page_edits.specs.Edit.{dropped, falling, falls, with_pair}
use Rattle.page_edits.specs.Write.{size}
use Rattle.pages.proofs.Looks.{length_pairs, none, pair_at}
use Rattle.pages.specs.Page.{Pair, key_of, pairs, pairs_of, val_of}
use Rattle.splits.specs.Plan.{fits_at, has_room}
use Rattle.splits.specs.Writes.{others}
use Rattle.std.proofs.lemmas.Bool.{and_parts, cases_Bool, lt-leb}
use Rattle.std.proofs.lemmas.List.Elements.{filter-append}
use Rattle.std.proofs.lemmas.List.{take_more}

cost_append : (ps qs : List Pair) → cost (ps ++ qs) ≡ cost ps + cost qs
cost_append ps qs = omega (arith, length-append ps qs, size_append ps qs)

module _ (key : List ℕ) (t : ℕ) where
  others_append : (ps qs : List Pair) → others (ps ++ qs) key t ≡ others ps key t ++ others qs key t
  others_append ps qs =
      let p = low (hash key) t in
      ap (dropped key) (filter-append (λ q. falls t p q.0) ps qs) ∙ filter-append (λ q. not (same q.0 key)) (falling t p ps) (falling t p qs)

  -- no more for the first pairs than for all
  pub cost_front : (n : ℕ) (ps : List Pair) → cost (others (take n ps) key t) ≤ cost (others ps key t)
  cost_front n ps =
      let e : cost (others ps key t) ≡ cost (others (take n ps) key t ++ others (drop n ps) key t)
      = ap (λ (qs : List Pair). cost (others qs key t)) (sym (take-append-drop n ps)) ∙ ap cost (others_append (take n ps) (drop n ps)) in
      omega (arith, e, cost_append (others (take n ps) key t) (others (drop n ps) key t))

  -- pair k of a page, and whether it stays as code tests it
  module _ (page : List ℕ) (k x : ℕ) (other old : List ℕ) (stays : Bool) (at : (k < pairs page) × (other ≡ key_of page k) × (old ≡ val_of page k))
      (is : stays ≡ (falls t x other && not (same other key))) (low_is : x ≡ low (hash key) t) where
    abbrev first : ℕ → ℕ
    first n = cost (others (take n (pairs_of page)) key t)

    more : first (k + 1) ≡ first k + cost (others ((other, old) ∷ []) key t)
    more =
        let ps = pairs_of page in
        let l = length_pairs page in
        let h = pair_at page k none at.0 in
        let a = at.1 in
        let b = at.2 in
        let q : get_or ps k none ≡ (other, old) = cc in
        let e : take (k + 1) ps ≡ take k ps ++ (other, old) ∷ [] = take_more ps k none (omega (arith, at.0)) ∙ ap (λ (p : Pair). take k ps ++ p ∷ []) q in
        ap (λ (qs : List Pair). cost (others qs key t)) e
        ∙ ap cost (others_append (take k ps) ((other, old) ∷ []))
        ∙ cost_append (others (take k ps) key t) (others ((other, old) ∷ []) key t)

    tested : (falls t (low (hash key) t) other && not (same other key)) ≡ stays
    tested = sym (is ∙ ap (λ (y : ℕ). falls t y other && not (same other key)) low_is)

    pub first_stays : stays ≡ true → first (k + 1) ≡ first k + (4 + (length other + length old))
    first_stays e =
        let b = and_parts (falls t (low (hash key) t) other) (not (same other key)) (tested ∙ e) in
        let one : cost (others ((other, old) ∷ []) key t) ≡ 4 + (length other + length old) = rw (b.0) (rw (b.1) (omega arith)) in
        more ∙ ap (λ (n : ℕ). first k + n) one

    pub first_leaves : stays ≡ false → first (k + 1) ≡ first k
    first_leaves e =
        let f = falls t (low (hash key) t) other in
        let none : cost (others ((other, old) ∷ []) key t) ≡ 0 =
        ⊎_elim
        (λ (a : f ≡ true). let b : not (same other key) ≡ false = rw a at (tested ∙ e) in rw a (rw b refl))
        (λ (a : f ≡ false). rw a refl)
        (cases_Bool f) in
        more ∙ ap (λ (n : ℕ). first k + n) none ∙ omega arith

pub enough : (ps : List Pair) (key value : List ℕ) (t : ℕ) → cost (others ps key t) + (4 + (length key + length value)) ≤ 1022 → fits_at ps key value t ≡ true
enough ps key value t l =
    let more = with_pair (others ps key t) key value in
    le-leb (2 + (4 * length more + size more)) 1024 (omega (arith, cost_append (others ps key t) ((key, value) ∷ [])))

pub too_few : (ps : List Pair) (key value : List ℕ) (t : ℕ) → 1022 < cost (others ps key t) + (4 + (length key + length value)) → fits_at ps key value t ≡ false
too_few ps key value t l =
    let more = with_pair (others ps key t) key value in
    lt-leb (2 + (4 * length more + size more)) 1024 (omega (arith, cost_append (others ps key t) ((key, value) ∷ [])))

-- what the code has left of a page whose pairs are these, and whether it is enough
pub beside_all : (ps : List Pair) (key value : List ℕ) (free : ℕ) (left : Option ℕ) → free + (2 + cost ps) ≡ 1024 → MatchOption left (free < 4 + (length key + length value)) (λ n. n + (4 + (length key + length value)) ≡ free) → is_some left ≡ has_room (with_pair ps key value)
beside_all ps key value free (Some n) is m =
    let more = with_pair ps key value in
    sym (le-leb (2 + (4 * length more + size more)) 1024 (omega (arith, is, m, cost_append ps ((key, value) ∷ []))))
beside_all ps key value free None is m =
    let more = with_pair ps key value in
    sym (lt-leb (2 + (4 * length more + size more)) 1024 (omega (arith, is, m, cost_append ps ((key, value) ∷ []))))

-- room beside all pairs is room beside those that stay
pub room_stays : (ps : List Pair) (key value : List ℕ) (t : ℕ) → has_room (with_pair ps key value) ≡ true → fits_at ps key value t ≡ true
room_stays ps key value t room =
    let more = with_pair ps key value in
    let p = low (hash key) t in
    enough ps key value t
    (omega (
      arith,
      leb-true (2 + (4 * length more + size more)) 1024 room,
      cost_append ps ((key, value) ∷ []),
      cost_kept (λ q. falls t p q.0) ps,
      cost_kept (λ q. not (same q.0 key)) (falling t p ps),
    ))
