-- A search through a list of pairs, by number.
use Rattle.std.proofs.Common.{◌≡◌, ℕ, zero, suc, ◌+◌, ◌-◌, ◌<◌, ◌≤◌, true, false, List, [], ◌∷◌, length, ◌++◌, get_or, drop, Some, None, sym, refl, ap, ◌∙◌, arith, take-add}
use Rattle.keys.proofs.Sames.{laws}
use Rattle.keys.specs.Same.{same}
use Rattle.pages.proofs.Pages.{offsets_within}
use Rattle.pages.specs.Page.{Apart, Laid, Pair, key_at, key_end, key_of, look, pair_of, pairs, pairs_of, val_at, val_of}
use Rattle.pages.specs.Read.{Found, PairAt, PartsAt, Place, ValueOf, Which, bytes_at}
use Rattle.std.specs.Borrow.{Bor}
use Rattle.std.proofs.lemmas.Bool.{false_from_ne_true}
use Rattle.std.proofs.lemmas.List.{drop-drop}
use Rattle.std.proofs.lemmas.List.Edits.{length-between}
use Rattle.std.proofs.lemmas.List.FromFn.{get_or-map-range_with_len, length-map-range_with_len}

abbrev pub none : Pair
none = ([], [])

pub pair_at : (page : List ℕ) (k : ℕ) (d : Pair) → k < pairs page → get_or (pairs_of page) k d ≡ pair_of page k
pair_at page k d h = get_or-map-range_with_len (pair_of page) 0 (pairs page) k k d h (omega arith)

pub length_pairs : (page : List ℕ) → length (pairs_of page) ≡ pairs page
length_pairs page = length-map-range_with_len (pair_of page) 0 (pairs page)

pub look_none : (key : List ℕ) (ps : List Pair) → ((i : ℕ) → i < length ps → same (get_or ps i none).0 key ≡ false) → look key ps ≡ None
look_none key [] h = refl
look_none key (p ∷ ps) h = rw (h 0 (omega arith)) (look_none key ps (λ i lt. h (suc i) (omega arith)))

pub look_some : (key : List ℕ) (ps : List Pair) (i : ℕ) → i < length ps → same (get_or ps i none).0 key ≡ true → ((j : ℕ) → j < i → same (get_or ps j none).0 key ≡ false) → look key ps ≡ Some (get_or ps i none)
look_some key [] i lt e h = absurd (omega arith)
look_some key (p ∷ ps) zero lt e h = rw e
look_some key (p ∷ ps) (suc i) lt e h =
    rw (h 0 (omega arith)) (look_some key ps i (omega arith) e (λ j l. h (suc j) (omega arith)))

pub page_none : (page key : List ℕ) → Which page (pairs page) key None → look key (pairs_of page) ≡ None
page_none page key h =
    look_none key (pairs_of page)
    (λ i lt. let l : i < pairs page = omega (arith, length_pairs page) in rw (pair_at page i none l) (h i l))

-- the key's pair is the only one that has it
pub page_some : (page key : List ℕ) (k : ℕ) → Apart page (pairs page) → k < pairs page → same (key_of page k) key ≡ true → look key (pairs_of page) ≡ Some (pair_of page k)
page_some page key k apart lt e =
    let at = pair_at page k none lt in
    look_some key (pairs_of page) k (omega (arith, length_pairs page)) (rw at e)
    (λ j l.
    let lj : j < pairs page = omega arith in
    rw (pair_at page j none lj)
    (false_from_ne_true _
    (λ t.
    let both : same (key_of page j) (key_of page k) ≡ true = laws.transitive (key_of page j) key (key_of page k) t (laws.symmetric (key_of page k) key e) in
    let differ : same (key_of page j) (key_of page k) ≡ false = apart j k (l, lt) in cc)))
    ∙ ap Some at

pub found_at : (page key : List ℕ) (k : ℕ) (p : Place × Place) → Apart page (pairs page) → same (key_of page k) key ≡ true → PairAt page k (Some p) → Found page key (Some p.1)
found_at page key k p apart e at =
    let here = ap (λ (q : Place × Place). q.1) at.1 in
    (k, at.0, here, page_some page key k apart at.0 e ∙ ap (λ (q : Place). Some (key_of page k, bytes_at page q)) (sym here))

pub value_at : (page key : List ℕ) (k : ℕ) (p : Bor (List ℕ) × Bor (List ℕ)) → Apart page (pairs page) → same (key_of page k) key ≡ true → PartsAt page k (Some p) → ValueOf page key (Some p.1)
value_at page key k p apart e at =
    (key_of page k, page_some page key k apart at.0 e ∙ ap (λ (v : List ℕ). Some (key_of page k, v)) (sym at.2))

-- the bytes of a pair lie together, the value and then the key
module _ (page : List ℕ) (whole : length page ≡ 1024) (laid : Laid page (pairs page)) (k x key_len from value_len : ℕ) (at : PairAt page k (Some ((x, key_len), (from, value_len)))) where
  places : (key_len ≡ key_end page k - key_at page k) × (from ≡ val_at page k) × (value_len ≡ key_at page k - val_at page k)
  places =
      let h = at.1 in
      (ap (λ (q : Place × Place). q.0.1) h, ap (λ (q : Place × Place). q.1.0) h, ap (λ (q : Place × Place). q.1.1) h)

  within : (val_at page k ≤ key_at page k) × (key_at page k ≤ key_end page k) × (key_end page k ≤ 1024)
  within = offsets_within page (pairs page) laid k at.0

  pub lies_within : from + (value_len + key_len) ≤ 1024
  lies_within = omega (arith, places, within)

  pub lies_at : (part : List ℕ) (n : ℕ) → part ≡ bytes_at page (from, value_len + key_len) → n ≡ value_len → (k < pairs page) × (part ≡ val_of page k ++ key_of page k) × (n ≡ length (val_of page k))
  lies_at part n e m =
      let key_at_is : from + value_len ≡ key_at page k = omega (arith, places, within) in
      let key_is : drop value_len (drop from page) ≡ drop (key_at page k) page = drop-drop value_len from page ∙ ap (λ (n : ℕ). drop n page) key_at_is in
      let long = length-between page (val_at page k) (key_at page k) (omega (arith, within)) in
      (at.0, e ∙ take-add value_len key_len (drop from page) ∙ cc (places.0, places.1, places.2), omega (arith, places, within, long))
