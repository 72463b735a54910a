-- A walk shows the pairs held, page by page.
use Rattle.std.proofs.Common.{◌≡◌, ℕ, zero, suc, ◌+◌, ◌-◌, ◌<◌, ◌≤◌, Bool, false, cond, eqb, List, [], ◌∷◌, ◌++◌, length, get_or, drop, Contains, filter, flat_map, sym, refl, ap, ap₂, ◌∙◌, subst, ⊎_elim, add-one, arith}
use Rattle.contents.proofs.Held.{home_same}
use Rattle.contents.proofs.Joins.{cond_in, differ_append, differ_filter, differ_none, filter_has, filter_in, filter_skip, joined_has, joined_in, joined_same}
use Rattle.contents.specs.Contents.{Contents, Holds, Position, home, remaining, shown, start}
use Rattle.contents.specs.Laws.{Differ, Exactly, Tidy, Walk, WalkShows}
use Rattle.directory.proofs.Lookups.{page_below}
use Rattle.directory.specs.Tree.{Reachable, page_of}
use Rattle.keys.specs.Hash.{hash}
use Rattle.keys.specs.Same.{same}
use Rattle.pages.proofs.Looks.{none}
use Rattle.pages.specs.Page.{Pair}
use Rattle.std.proofs.lemmas.Bool.{cases_lt, cond-false, cond-true, cond_both, eq-eqb, eqb-true, false_from_ne_true, ne_eqb}
use Rattle.std.proofs.lemmas.List.{drop_all, drop_more}
use Rattle.std.specs.List.{range_with_len}

-- one page

module _ (c : Contents) (q : ℕ) where
  abbrev stays : Pair → Bool
  stays pair = eqb (home c pair.0) q

  shown_in : (x : Pair) → Contains (shown c q 0) x → Holds c x × (home c x.0 ≡ q)
  shown_in x h =
      let r = cond_in (eqb (page_of c.bits q) q) (filter stays (c.pages q)) x h in
      let f = filter_in stays (c.pages q) x r.1 in
      let at = eqb-true (home c x.0) q f.1 in
      let held : Holds c x = record { page = q; reachable = eqb-true (page_of c.bits q) q r.0; there = f.0; at_home = at } in
      (held, at)

  shown_has : (x : Pair) → Reachable c.bits q → Contains (c.pages q) x → home c x.0 ≡ q → Contains (shown c q 0) x
  shown_has x reachable there at =
      rw (cond-true (eqb (page_of c.bits q) q) (filter stays (c.pages q)) [] (eq-eqb (page_of c.bits q) q reachable))
      (filter_has stays (c.pages q) x there (eq-eqb (home c x.0) q at))

  shown_differ : Tidy c → Differ (shown c q 0)
  shown_differ tidy =
      cond_both (eqb (page_of c.bits q) q) (filter stays (c.pages q)) [] Differ (λ _. differ_filter stays (c.pages q) (tidy q)) (λ _. differ_none)

-- all pages

module _ (c : Contents) where
  abbrev whole : ℕ → ℕ → List Pair
  whole p m = flat_map (λ q. shown c q 0) (range_with_len p m)

  -- pairs on different pages have different homes
  whole_differ : Tidy c → (p m : ℕ) → Differ (whole p m)
  whole_differ tidy p zero = differ_none
  whole_differ tidy p (suc m) =
      differ_append (shown c p 0) (whole (p + 1) m) (shown_differ c p tidy) (whole_differ tidy (p + 1) m)
      (λ x y i j.
      let later = joined_in (λ q. shown c q 0) (p + 1) m y j in
      let a = (shown_in c p x i).1 in
      let b = (shown_in c later.0 y later.3).1 in
      false_from_ne_true (same x.0 y.0) (λ t. let e = home_same c x.0 y.0 t in omega (arith, later.1)))

  whole_exactly : Tidy c → (m : ℕ) → m ≡ 32768 → Exactly c (whole 0 m)
  whole_exactly tidy m e =
      record {
        differ = whole_differ tidy 0 m;
        held = λ x h. let at = joined_in (λ q. shown c q 0) 0 m x h in (shown_in c at.0 x at.3).0;
        all = λ x h.
            let below = page_below c.bits (hash x.0) in
            joined_has (λ q. shown c q 0) 0 m h.page x (omega arith) (omega (arith, h.at_home, below)) (shown_has c h.page x h.reachable h.there h.at_home);
      }

-- what remains from a position

-- m is the number of pages left: a variable, since a range of a written-out length computes
remaining_pages : (c : Contents) (p n m : ℕ) → m ≡ 32768 - p → remaining c (p, n) ≡ flat_map (λ q. shown c q (start (p, n) q)) (range_with_len p m)
unfolding remaining
remaining_pages c p n m e = ap (λ (k : ℕ). flat_map (λ q. shown c q (start (p, n) q)) (range_with_len p k)) (sym e)

start_here : (p n : ℕ) → start (p, n) p ≡ n
start_here p n = cond-true (eqb p p) n 0 (eq-eqb p p refl)

start_later : (p n q : ℕ) → p < q → start (p, n) q ≡ 0
start_later p n q l = cond-false (eqb q p) n 0 (ne_eqb q p (λ e. omega arith))

start_none : (p q : ℕ) → start (p, 0) q ≡ 0
start_none p q = cond_both (eqb q p) 0 0 (λ k. k ≡ 0) (λ _. refl) (λ _. refl)

remaining_whole : (c : Contents) (p m : ℕ) → m ≡ 32768 - p → remaining c (p, 0) ≡ whole c p m
remaining_whole c p m e =
    remaining_pages c p 0 m e ∙ joined_same (λ q. shown c q (start (p, 0) q)) (λ q. shown c q 0) p m (λ q _. ap (shown c q) (start_none p q))

-- what is shown of the page, and what remains from the next one
remaining_page : (c : Contents) (p n : ℕ) → p < 32768 → remaining c (p, n) ≡ shown c p n ++ remaining c (suc p, 0)
remaining_page c p n l =
    let m = 32767 - p in
    let rest = joined_same (λ q. shown c q (start (p, n) q)) (λ q. shown c q 0) (p + 1) m (λ q k. ap (shown c q) (start_later p n q (omega arith))) in
    let next = remaining_whole c (suc p) m (omega arith) in
    remaining_pages c p n (suc m) (omega arith)
    ∙ ap₂ (λ (xs ys : List Pair). xs ++ ys) (ap (shown c p) (start_here p n)) (rest ∙ ap (λ (k : ℕ). whole c k m) (add-one p) ∙ sym next)

-- a step of a walk

-- pair i of page p is at home there
abbrev pub AtHome : Contents → ℕ → ℕ → Type 0
AtHome c p i = (i < length (c.pages p)) × (home c (get_or (c.pages p) i none).0 ≡ p)

-- no pair from number n up to number i is
abbrev pub NoneFrom : Contents → ℕ → ℕ → ℕ → Type 0
NoneFrom c p n i = (k : ℕ) → n ≤ k → k < i → AtHome c p k → ⊥

-- from 32,768 on nothing remains
pub over : (c : Contents) (p n : ℕ) → 32768 ≤ p → remaining c (p, n) ≡ []
over c p n l = remaining_pages c p n 0 (omega arith)

module _ (c : Contents) (p : ℕ) where
  not_home : (n i : ℕ) → i ≤ length (c.pages p) → NoneFrom c p n i → (k : ℕ) → n ≤ k → k < i → stays c p (get_or (c.pages p) k none) ≡ false
  not_home n i l nobody k a b = ne_eqb (home c (get_or (c.pages p) k none).0) p (λ e. nobody k a b (omega arith, e))

  -- with none at home from n on the filter keeps none
  kept_none : (n : ℕ) → NoneFrom c p n (length (c.pages p)) → filter (stays c p) (drop n (c.pages p)) ≡ []
  kept_none n nobody =
      let xs = c.pages p in
      let i = length xs in
      ⊎_elim
      (λ (l : n < i).
      filter_skip (stays c p) xs none i n (i - n) (omega arith) (omega arith) (not_home n i (omega arith) nobody)
      ∙ ap (filter (stays c p)) (drop_all i xs (omega arith)))
      (λ (l : i ≤ n). ap (filter (stays c p)) (drop_all n xs l))
      (cases_lt n i)

  kept_first : (n i : ℕ) → n ≤ i → AtHome c p i → NoneFrom c p n i → filter (stays c p) (drop n (c.pages p)) ≡ get_or (c.pages p) i none ∷ filter (stays c p) (drop (suc i) (c.pages p))
  kept_first n i l at nobody =
      let xs = c.pages p in
      let x = get_or xs i none in
      let rest = filter (stays c p) (drop (i + 1) xs) in
      filter_skip (stays c p) xs none i n (i - n) (omega arith) (omega arith) (not_home n i (omega arith) nobody)
      ∙ ap (filter (stays c p)) (drop_more xs i none at.0)
      ∙ cond-true (stays c p x) (x ∷ rest) rest (eq-eqb (home c x.0) p at.1)
      ∙ ap (λ (k : ℕ). x ∷ filter (stays c p) (drop k xs)) (add-one i)

  shown_reachable : (n : ℕ) → Reachable c.bits p → shown c p n ≡ filter (stays c p) (drop n (c.pages p))
  shown_reachable n r = cond-true (eqb (page_of c.bits p) p) (filter (stays c p) (drop n (c.pages p))) [] (eq-eqb (page_of c.bits p) p r)

  -- a page that is not reachable shows nothing
  pub skip : (n : ℕ) → p < 32768 → (Reachable c.bits p → ⊥) → remaining c (p, n) ≡ remaining c (suc p, 0)
  skip n l lost =
      remaining_page c p n l
      ∙ ap (λ (xs : List Pair). xs ++ remaining c (suc p, 0))
      (cond-false (eqb (page_of c.bits p) p) (filter (stays c p) (drop n (c.pages p))) [] (ne_eqb (page_of c.bits p) p lost))

  -- nor does a page on which no pair from n on is at home
  pub pass : (n : ℕ) → p < 32768 → NoneFrom c p n (length (c.pages p)) → remaining c (p, n) ≡ remaining c (suc p, 0)
  pass n l nobody =
      remaining_page c p n l
      ∙ ap (λ (xs : List Pair). xs ++ remaining c (suc p, 0))
      (ap (λ (xs : List Pair). cond (eqb (page_of c.bits p) p) xs []) (kept_none n nobody) ∙ cond_both (eqb (page_of c.bits p) p) [] [] (λ xs. xs ≡ []) (λ _. refl) (λ _. refl))

  -- the first pair at home on a reachable page is the next
  pub hit : (n i : ℕ) → p < 32768 → Reachable c.bits p → n ≤ i → AtHome c p i → NoneFrom c p n i → remaining c (p, n) ≡ get_or (c.pages p) i none ∷ remaining c (p, suc i)
  hit n i l r le at nobody =
      let x = get_or (c.pages p) i none in
      let next = remaining c (suc p, 0) in
      let first = shown_reachable n r ∙ kept_first n i le at nobody ∙ ap (λ (xs : List Pair). x ∷ xs) (sym (shown_reachable (suc i) r)) in
      remaining_page c p n l ∙ ap (λ (xs : List Pair). xs ++ next) first ∙ ap (λ (xs : List Pair). x ∷ xs) (sym (remaining_page c p (suc i) l))

-- whole walks

-- a walk shows what remains
pub walk_is : (c : Contents) (at : Position) (pairs : List Pair) → Walk c at pairs → pairs ≡ remaining c at
walk_is c at [] w = sym w
walk_is c at (pair ∷ pairs) w = ap (λ (xs : List Pair). pair ∷ xs) (walk_is c w.0 pairs w.2) ∙ sym w.1

-- and what remains at the start is held
start_exactly : (c : Contents) → Tidy c → (m : ℕ) → m ≡ 32768 → Exactly c (remaining c (0, 0))
start_exactly c tidy m e = subst (Exactly c) (sym (remaining_whole c 0 m e)) (whole_exactly c tidy m e)

pub remaining_exactly : (c : Contents) → Tidy c → Exactly c (remaining c (0, 0))
remaining_exactly c tidy = start_exactly c tidy 32768 refl

pub walk_shows : WalkShows
walk_shows c tidy pairs w = subst (Exactly c) (sym (walk_is c (0, 0) pairs w)) (remaining_exactly c tidy)
