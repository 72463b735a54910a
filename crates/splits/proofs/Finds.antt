-- What a search finds in a part of a list of pairs.
use Rattle.std.proofs.Common.{◌≡◌, ℕ, Bool, true, false, not, cond, List, [], ◌∷◌, ◌++◌, Option, Some, None, filter, eqb, sym, refl, ap, ◌∙◌, ⊎_elim}
use Rattle.directory.specs.Tree.{low}
use Rattle.keys.proofs.Sames.{laws}
use Rattle.keys.specs.Hash.{hash}
use Rattle.keys.specs.Same.{same}
use Rattle.page_edits.specs.Edit.{dropped, falling, falls, with_pair}
use Rattle.pages.specs.Page.{Pair, look}
use Rattle.std.proofs.lemmas.Bool.{both_ways, cases_Bool, cond-false, cond-true, eq-eqb, not_from_false, not_from_true}

-- a test that same keys pass together
abbrev pub Shared : (List ℕ → Bool) → Type 0
Shared test = (a b : List ℕ) → same a b ≡ true → test a ≡ test b

-- the part that passes a test of the key, sought through for a key that passes too
pub look_kept : (test : List ℕ → Bool) → Shared test → (key : List ℕ) → test key ≡ true → (ps : List Pair) → look key (filter (λ p. test p.0) ps) ≡ look key ps
look_kept test shared key pass [] = refl
look_kept test shared key pass (p ∷ ps) =
    let more = look_kept test shared key pass ps in
    ⊎_elim
    (λ (e : test p.0 ≡ true). rw e (ap (λ (o : Option Pair). cond (same p.0 key) (Some p) o) more))
    (λ (e : test p.0 ≡ false).
    rw e
    (⊎_elim
    (λ (s : same p.0 key ≡ true). absurd (both_ways (test p.0) e (shared p.0 key s ∙ pass)))
    (λ (s : same p.0 key ≡ false). more ∙ sym (cond-false (same p.0 key) (Some p) (look key ps) s))
    (cases_Bool (same p.0 key))))
    (cases_Bool (test p.0))

-- and for a key that does not
pub look_left : (test : List ℕ → Bool) → Shared test → (key : List ℕ) → test key ≡ false → (ps : List Pair) → look key (filter (λ p. test p.0) ps) ≡ None
look_left test shared key fail [] = refl
look_left test shared key fail (p ∷ ps) =
    let more = look_left test shared key fail ps in
    ⊎_elim
    (λ (e : test p.0 ≡ true).
    rw e
    (⊎_elim
    (λ (s : same p.0 key ≡ true). absurd (both_ways (test p.0) (shared p.0 key s ∙ fail) e))
    (λ (s : same p.0 key ≡ false). rw s more)
    (cases_Bool (same p.0 key))))
    (λ (e : test p.0 ≡ false). rw e more)
    (cases_Bool (test p.0))

-- the part whose hashes have these low bits, sought through for a key whose hash has them
pub look_falling : (t x : ℕ) (key : List ℕ) (ps : List Pair) → low (hash key) t ≡ x → look key (falling t x ps) ≡ look key ps
look_falling t x key ps e =
    look_kept (falls t x) (λ a b s. ap (λ (h : ℕ). eqb (low h t) x) (laws.hashed a b s)) key (eq-eqb (low (hash key) t) x e) ps

-- sameness with a third key, from either side

same_left : (a b c : List ℕ) → same a b ≡ true → same a c ≡ same b c
same_left a b c e =
    ⊎_elim
    (λ (x : same a c ≡ true). x ∙ sym (laws.transitive b a c (laws.symmetric a b e) x))
    (λ (x : same a c ≡ false).
    ⊎_elim
    (λ (y : same b c ≡ true). absurd (both_ways (same a c) x (laws.transitive a b c e y)))
    (λ (y : same b c ≡ false). x ∙ sym y)
    (cases_Bool (same b c)))
    (cases_Bool (same a c))

same_back : (a b : List ℕ) → same a b ≡ same b a
same_back a b =
    ⊎_elim
    (λ (x : same a b ≡ true). x ∙ sym (laws.symmetric a b x))
    (λ (x : same a b ≡ false).
    ⊎_elim
    (λ (y : same b a ≡ true). absurd (both_ways (same a b) x (laws.symmetric b a y)))
    (λ (y : same b a ≡ false). x ∙ sym y)
    (cases_Bool (same b a)))
    (cases_Bool (same a b))

pub look_dropped : (key k : List ℕ) (ps : List Pair) → look k (dropped key ps) ≡ cond (same key k) None (look k ps)
look_dropped key k ps =
    let test : List ℕ → Bool = λ a. not (same a key) in
    let shared : Shared test = λ a b s. ap not (same_left a b key s) in
    ⊎_elim
    (λ (e : same key k ≡ true).
    look_left test shared k (not_from_true (same k key) (laws.symmetric key k e)) ps ∙ sym (cond-true (same key k) None (look k ps) e))
    (λ (e : same key k ≡ false).
    look_kept test shared k (not_from_false (same k key) (same_back k key ∙ e)) ps ∙ sym (cond-false (same key k) None (look k ps) e))
    (cases_Bool (same key k))

-- the first of two that is there
abbrev or : Option Pair → Option Pair → Option Pair
or None o = o
or (Some p) o = Some p

look_append : (k : List ℕ) (ps qs : List Pair) → look k (ps ++ qs) ≡ or (look k ps) (look k qs)
look_append k [] qs = refl
look_append k (p ∷ ps) qs =
    let more = look_append k ps qs in
    elim (same p.0 k) as (λ b. cond b (Some p) (look k (ps ++ qs)) ≡ or (cond b (Some p) (look k ps)) (look k qs)) [
      | true ↦ refl
      | false ↦ more
    ]

or_last : (b : Bool) (o : Option Pair) (p : Pair) → or (cond b None o) (cond b (Some p) None) ≡ cond b (Some p) o
or_last true o p = refl
or_last false None p = refl
or_last false (Some q) p = refl

pub look_edited : (key value k : List ℕ) (ps : List Pair) → look k (with_pair (dropped key ps) key value) ≡ cond (same key k) (Some (key, value)) (look k ps)
look_edited key value k ps =
    look_append k (dropped key ps) ((key, value) ∷ [])
    ∙ ap (λ (o : Option Pair). or o (cond (same key k) (Some (key, value)) None)) (look_dropped key k ps)
    ∙ or_last (same key k) (look k ps) (key, value)
