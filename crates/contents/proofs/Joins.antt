-- Lists joined over the numbers of a range, a filter, and lists of pairs whose keys differ.
use Rattle.std.proofs.Common.{◌≡◌, ℕ, zero, suc, ◌+◌, ◌<◌, ◌≤◌, Bool, true, false, cond, List, [], ◌∷◌, ◌++◌, length, get_or, drop, All, Contains, filter, flat_map, refl, ap, ap₂, ◌∙◌, subst, ⊎_elim, arith}
use Rattle.contents.specs.Laws.{Differ}
use Rattle.keys.specs.Same.{same}
use Rattle.pages.specs.Page.{Pair}
use Rattle.std.proofs.lemmas.Bool.{both_ways, cases_eq, cond-false, cond_both}
use Rattle.std.proofs.lemmas.List.{drop_more}
use Rattle.std.proofs.lemmas.List.Elements.{All-append, All-contains, All-contains_itself, All-filter, All-from_recursion, Contains-append_cases, Contains-append_left, Contains-append_right, Contains-get_or, filter_passes, recursion_from_All}
use Rattle.std.proofs.lemmas.Map.Keys.{IsDistinct-cons, IsDistinct-from_apart, IsDistinct-head, IsDistinct-tail}
use Rattle.std.specs.List.{range_with_len}

-- what stands in a filter, or under a test

pub filter_in : {X : Type 0} (test : X → Bool) (xs : List X) (x : X) → Contains (filter test xs) x → Contains xs x × (test x ≡ true)
filter_in test xs x h = (
  All-contains (Contains xs) (filter test xs) x (All-filter test (Contains xs) xs (All-contains_itself xs)) h,
  All-contains (λ y. test y ≡ true) (filter test xs) x (filter_passes test xs) h,
)

contains_later : {X : Type 0} (y : X) (xs : List X) (x : X) → Contains xs x → Contains (y ∷ xs) x
contains_later y xs x h = (suc h.0, omega (arith, h.1), h.2)

pub filter_has : {X : Type 0} (test : X → Bool) (xs : List X) (x : X) → Contains xs x → test x ≡ true → Contains (filter test xs) x
filter_has test [] x h t = absurd (omega (arith, h.1))
filter_has test (y ∷ ys) x (zero, l, e) t =
    cond_both (test y) (y ∷ filter test ys) (filter test ys) (λ zs. Contains zs x) (λ _. (0, omega arith, e)) (λ f. absurd (both_ways (test y) f (ap test e ∙ t)))
filter_has test (y ∷ ys) x (suc k, l, e) t =
    let r = filter_has test ys x (k, omega arith, e) t in
    cond_both (test y) (y ∷ filter test ys) (filter test ys) (λ zs. Contains zs x) (λ _. contains_later y (filter test ys) x r) (λ _. r)

pub cond_in : {X : Type 0} (b : Bool) (xs : List X) (x : X) → Contains (cond b xs []) x → (b ≡ true) × Contains xs x
cond_in true xs x h = (refl, h)
cond_in false xs x h = absurd (omega (arith, h.1))

-- elements that fail make no difference to a filter
pub filter_skip : {X : Type 0} (test : X → Bool) (xs : List X) (d : X) (i n m : ℕ) → n + m ≡ i → i ≤ length xs → ((k : ℕ) → n ≤ k → k < i → test (get_or xs k d) ≡ false)
    → filter test (drop n xs) ≡ filter test (drop i xs)
filter_skip test xs d i n zero e l fails = ap (λ (k : ℕ). filter test (drop k xs)) (omega arith)
filter_skip test xs d i n (suc m) e l fails =
    ap (filter test) (drop_more xs n d (omega arith))
    ∙ cond-false (test (get_or xs n d)) (get_or xs n d ∷ filter test (drop (n + 1) xs)) (filter test (drop (n + 1) xs)) (fails n (omega arith) (omega arith))
    ∙ filter_skip test xs d i (n + 1) m (omega arith) l (λ k a b. fails k (omega arith) b)

-- one list for each number of a range
module _ {X : Type 0} (f : ℕ → List X) where
  pub joined_in : (p m : ℕ) (x : X) → Contains (flat_map f (range_with_len p m)) x → (q : ℕ) × (p ≤ q) × (q < p + m) × Contains (f q) x
  joined_in p zero x h = absurd (omega (arith, h.1))
  joined_in p (suc m) x h =
      ⊎_elim
      (λ here. (p, omega arith, omega arith, here))
      (λ later. let r = joined_in (p + 1) m x later in (r.0, omega (arith, r.1), omega (arith, r.2), r.3))
      (Contains-append_cases (f p) (flat_map f (range_with_len (p + 1) m)) x h)

  pub joined_has : (p m q : ℕ) (x : X) → p ≤ q → q < p + m → Contains (f q) x → Contains (flat_map f (range_with_len p m)) x
  joined_has p zero q x l k h = absurd (omega arith)
  joined_has p (suc m) q x l k h =
      let rest = flat_map f (range_with_len (p + 1) m) in
      ⊎_elim
      (λ (e : q ≡ p). Contains-append_left (f p) rest x (subst (λ (r : ℕ). Contains (f r) x) e h))
      (λ (ne : q ≡ p → ⊥). Contains-append_right (f p) rest x (joined_has (p + 1) m q x (omega arith) (omega arith) h))
      (cases_eq q p)

  pub joined_same : (g : ℕ → List X) (p m : ℕ) → ((q : ℕ) → p ≤ q → f q ≡ g q) → flat_map f (range_with_len p m) ≡ flat_map g (range_with_len p m)
  joined_same g p zero e = refl
  joined_same g p (suc m) e = ap₂ (λ (xs ys : List X). xs ++ ys) (e p (omega arith)) (joined_same g (p + 1) m (λ q l. e q (omega arith)))

-- pairs whose keys differ

pub differ_none : Differ []
differ_none = IsDistinct-from_apart _ [] (λ i j d l m. absurd (omega arith))

abbrev Other : Pair → Pair → Type 0
Other a b = same a.0 b.0 ≡ false

differ_head : (p : Pair) (ps : List Pair) → Differ (p ∷ ps) → All (Other p) ps
differ_head p ps d = All-from_recursion (Other p) ps (IsDistinct-head _ p ps d)

differ_cons : (p : Pair) (ps : List Pair) → All (Other p) ps → Differ ps → Differ (p ∷ ps)
differ_cons p ps others d = IsDistinct-cons _ p ps (recursion_from_All (Other p) ps others) d

pub differ_filter : (test : Pair → Bool) (ps : List Pair) → Differ ps → Differ (filter test ps)
differ_filter test [] d = d
differ_filter test (p ∷ ps) d =
    let rest = differ_filter test ps (IsDistinct-tail _ p ps d) in
    cond_both (test p) (p ∷ filter test ps) (filter test ps) Differ
    (λ _. differ_cons p (filter test ps) (All-filter test (Other p) ps (differ_head p ps d)) rest)
    (λ _. rest)

pub differ_append : (ps qs : List Pair) → Differ ps → Differ qs → ((p q : Pair) → Contains ps p → Contains qs q → same p.0 q.0 ≡ false) → Differ (ps ++ qs)
differ_append [] qs dp dq apart = dq
differ_append (p ∷ ps) qs dp dq apart =
    differ_cons p (ps ++ qs)
    (All-append (Other p) ps qs (differ_head p ps dp) (λ k d l. apart p (get_or qs k d) (0, omega arith, refl) (Contains-get_or qs k d l)))
    (differ_append ps qs (IsDistinct-tail _ p ps dp) dq (λ a b i j. apart a b (contains_later p ps a i) j))
