-- The pairs of a page differ, and what is held for a key is the one pair held with it.
use Rattle.std.proofs.Common.{◌≡◌, ℕ, suc, ◌<◌, true, false, List, [], ◌∷◌, get_or, Some, Contains, refl, sym, ap, ◌∙◌, subst, ⊎_elim, arith}
use Rattle.contents.specs.Blocks.{Blocks, bits_in, page_in}
use Rattle.contents.specs.Contents.{Contents, Holds, contents_of, held, home, pairs_in}
use Rattle.contents.specs.Laws.{Differ, HoldsOnce, PagesTidy, Tidy}
use Rattle.contents.specs.Test.{is_good}
use Rattle.contents.proofs.Joins.{differ_none}
use Rattle.contents.proofs.Tests.{tests_good}
use Rattle.directory.proofs.Lookups.{page_reachable}
use Rattle.directory.specs.Tree.{page_of}
use Rattle.keys.proofs.Sames.{laws}
use Rattle.keys.specs.Hash.{hash}
use Rattle.keys.specs.Same.{same}
use Rattle.pages.proofs.Looks.{length_pairs, look_some, none, pair_at}
use Rattle.pages.specs.Page.{Good, Pair, look, pairs, pairs_of}
use Rattle.std.proofs.lemmas.Bool.{both_ways, cases_Bool, cond-false, cond-true, cond_both, false_from_ne_true}
use Rattle.std.proofs.lemmas.List.{get_or_default}
use Rattle.std.proofs.lemmas.Map.Keys.{IsDistinct-from_apart, apart_from_distinct}
use Rattle.std.proofs.lemmas.Option.{none-some, same_Some}

-- the keys of a good page differ, and a page that is not good has none
pub differ_good : (page : List ℕ) → Good page → Differ (pairs_of page)
differ_good page good =
    IsDistinct-from_apart _ (pairs_of page)
    (λ i j d l m.
    let lj : j < pairs page = omega (arith, length_pairs page) in
    let li : i < pairs page = omega arith in
    rw (pair_at page i d li, pair_at page j d lj) (good.apart i j (l, lj)))

pub differ_page : (page : List ℕ) → Differ (pairs_in page)
differ_page page =
    cond_both (is_good page) (pairs_of page) [] Differ (λ t. differ_good page ((tests_good page).0 t)) (λ _. differ_none)

-- the parts of what blocks hold
pub contents_bits : (blocks : Blocks) → (contents_of blocks).bits ≡ bits_in blocks
unfolding contents_of
contents_bits blocks = refl

pub contents_pages : (blocks : Blocks) (p : ℕ) → (contents_of blocks).pages p ≡ pairs_in (page_in blocks p)
unfolding contents_of
contents_pages blocks p = refl

pub pages_tidy : PagesTidy
pages_tidy blocks p = rw (contents_pages blocks p) (differ_page (page_in blocks p))

-- what a search of a list finds stands in it, with the key
pub look_found : (key : List ℕ) (ps : List Pair) (pair : Pair) → look key ps ≡ Some pair → Contains ps pair × (same pair.0 key ≡ true)
look_found key [] pair e = absurd (none-some pair e)
look_found key (p ∷ ps) pair e =
    ⊎_elim
    (λ (t : same p.0 key ≡ true).
    let q : p ≡ pair = same_Some p pair (sym (cond-true (same p.0 key) (Some p) (look key ps) t) ∙ e) in
    ((0, omega arith, q), ap (λ (x : Pair). same x.0 key) (sym q) ∙ t))
    (λ (f : same p.0 key ≡ false).
    let r = look_found key ps pair (sym (cond-false (same p.0 key) (Some p) (look key ps) f) ∙ e) in
    ((suc r.0.0, omega (arith, r.0.1), r.0.2), r.1))
    (cases_Bool (same p.0 key))

-- and where the keys differ it finds every pair that stands there
pub look_held : (key : List ℕ) (ps : List Pair) (pair : Pair) → Differ ps → Contains ps pair → same pair.0 key ≡ true → look key ps ≡ Some pair
look_held key ps pair differ (k, l, at) e =
    let here : get_or ps k none ≡ pair = get_or_default ps k none pair l ∙ at in
    let has : same (get_or ps k none).0 key ≡ true = ap (λ (x : Pair). same x.0 key) here ∙ e in
    look_some key ps k l has
    (λ j m.
    let a = (get_or ps j none).0 in
    let b = (get_or ps k none).0 in
    false_from_ne_true _
    (λ t. both_ways (same a b) (apart_from_distinct _ ps j k none differ m l) (laws.transitive a key b t (laws.symmetric b key has))))
    ∙ ap Some here

-- same keys have one home
pub home_same : (c : Contents) (a b : List ℕ) → same a b ≡ true → home c a ≡ home c b
home_same c a b e = ap (page_of c.bits) (laws.hashed a b e)

held_for : (c : Contents) → Tidy c → (key : List ℕ) (pair : Pair) → Holds c pair → same pair.0 key ≡ true → held c key ≡ Some pair
held_for c tidy key pair h e =
    subst (λ (p : ℕ). look key (c.pages p) ≡ Some pair) (sym h.at_home ∙ home_same c pair.0 key e)
    (look_held key (c.pages h.page) pair (tidy h.page) h.there e)

pub holds_once : HoldsOnce
holds_once c tidy key =
    record {
      some = λ pair e.
          let f = look_found key (c.pages (home c key)) pair e in
          let h : Holds c pair = record { page = home c key; reachable = page_reachable c.bits (hash key); there = f.0; at_home = home_same c pair.0 key f.1 } in
          (h, f.1);
      only = held_for c tidy key;
      none = λ e pair h. false_from_ne_true (same pair.0 key) (λ t. none-some pair (sym e ∙ held_for c tidy key pair h t));
    }
