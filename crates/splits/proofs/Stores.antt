-- A store and a delete as changes of what is held.
use Rattle.std.proofs.Common.{◌≡◌, ℕ, ◌+◌, ◌<◌, true, false, cond, List, [], ◌∷◌, ◌++◌, length, take, Option, Some, None, sym, refl, ap, ◌∙◌, subst, ⊎_elim, arith, length-append, take_all}
use Rattle.contents.specs.Contents.{Contents, held, home}
use Rattle.directory.proofs.Lookups.{page_low}
use Rattle.directory.specs.Tree.{low, page_of}
use Rattle.keys.proofs.Sames.{laws}
use Rattle.keys.specs.Hash.{hash}
use Rattle.keys.specs.Same.{same}
use Rattle.page_edits.specs.Edit.{falling, with_pair}
use Rattle.pages.specs.Page.{Pair, look}
use Rattle.splits.proofs.Finds.{look_dropped, look_edited, look_falling}
use Rattle.splits.proofs.Splits.{LeafShows, put_here, put_other, splits_end, splits_keep}
use Rattle.splits.specs.Laws.{Deletes, Stores}
use Rattle.splits.specs.Plan.{MaySplit}
use Rattle.splits.specs.Writes.{Write, all_made, deleting, depth_at, made, others, pairs_at, splits, storing, to_page}
use Rattle.std.proofs.lemmas.Bool.{cases_Bool, cases_eq, cond-false}
use Rattle.std.proofs.lemmas.List.{take-append-le}

-- the leaf of a key, with the pairs on its page
pub leaf_here : (c : Contents) (key : List ℕ) → LeafShows c (hash key) (depth_at c key) (pairs_at c key)
leaf_here c key = record { depth = refl; shows = λ k e. refl }

-- an edit at a key of the pairs on its page whose lookup ends there
pub last_write : (c : Contents) (key : List ℕ) (t : ℕ) (pairs ps : List Pair) (o : Option Pair) → LeafShows c (hash key) t pairs
    → ((k : List ℕ) → look k ps ≡ cond (same key k) o (look k (falling t (low (hash key) t) pairs)))
    → (k : List ℕ) → held (made (to_page (low (hash key) t) ps) c) k ≡ cond (same key k) o (held c k)
last_write c key t pairs ps o at is k =
    let p = low (hash key) t in
    ⊎_elim
    (λ (e : home c k ≡ p).
    let q = subst (λ (d : ℕ). home c k ≡ low (hash key) d → low (hash k) d ≡ low (hash key) d) at.depth (page_low c.bits (hash k) (hash key)) e in
    let shown : look k (falling t p pairs) ≡ held c k = look_falling t p k pairs q ∙ sym (at.shows k q) ∙ ap (λ (x : ℕ). look k (c.pages x)) (sym e) in
    ap (look k) (put_here c.pages p ps (home c k) e) ∙ is k ∙ ap (λ (x : Option Pair). cond (same key k) o x) shown)
    (λ (n : home c k ≡ p → ⊥).
    ap (look k) (put_other c.pages p ps (home c k) n) ∙ sym (cond-false (same key k) o (held c k) (other n)))
    (cases_eq (home c k) p)
  where
    other : (home c k ≡ low (hash key) t → ⊥) → same key k ≡ false
    other n =
        ⊎_elim
        (λ (s : same key k ≡ true). absurd (n (ap (page_of c.bits) (sym (laws.hashed key k s)) ∙ ap (low (hash key)) at.depth)))
        (λ (s : same key k ≡ false). s)
        (cases_Bool (same key k))

pub deletes : Deletes
unfolding deleting
deletes c key k =
    let t = depth_at c key in
    last_write c key t (pairs_at c key) (others (pairs_at c key) key t) None (leaf_here c key)
    (λ k. look_dropped key k (falling t (low (hash key) t) (pairs_at c key))) k

pub all_made_append : (xs ys : List Write) (c : Contents) → all_made (xs ++ ys) c ≡ all_made ys (all_made xs c)
all_made_append [] ys c = refl
all_made_append (x ∷ xs) ys c = all_made_append xs ys (made x c)

-- the pair to be stored goes to the page of its key after the splits
store_ends : (s : ℕ) (c : Contents) (key value : List ℕ) → MaySplit c.bits (hash key) (depth_at c key) s
    → (k : List ℕ) → held (all_made (storing s c key value) c) k ≡ cond (same key k) (Some (key, value)) (held c k)
unfolding storing
store_ends s c key value may k =
    let pairs = pairs_at c key in
    let t = depth_at c key in
    let ws = splits pairs (hash key) t s in
    let e = all_made ws c in
    let last = to_page (low (hash key) (t + s)) (with_pair (others pairs key (t + s)) key value) in
    let kept : held e k ≡ held c k
    = ap (λ (l : List Write). held (all_made l c) k) (sym (take_all (length ws) ws (omega arith)))
    ∙ splits_keep s c (hash key) t pairs (leaf_here c key) may (length ws) k in
    ap (λ (d : Contents). held d k) (all_made_append ws (last ∷ []) c)
    ∙ last_write e key (t + s) pairs (with_pair (others pairs key (t + s)) key value) (Some (key, value)) (splits_end s c (hash key) t pairs (leaf_here c key) may)
    (λ k. look_edited key value k (falling (t + s) (low (hash key) (t + s)) pairs)) k
    ∙ ap (λ (o : Option Pair). cond (same key k) (Some (key, value)) o) kept

-- a front without the last write is one of the splits
store_fronts : (s : ℕ) (c : Contents) (key value : List ℕ) (n : ℕ) → n < length (storing s c key value)
    → take n (storing s c key value) ≡ take n (splits (pairs_at c key) (hash key) (depth_at c key) s)
unfolding storing
store_fronts s c key value n l =
    let ws = splits (pairs_at c key) (hash key) (depth_at c key) s in
    let t = depth_at c key + s in
    let last = to_page (low (hash key) t) (with_pair (others (pairs_at c key) key t) key value) in
    take-append-le n ws (last ∷ []) (omega (arith, length-append ws (last ∷ [])))

pub stores : Stores
stores s c key value may = record {
  cut = λ n l k.
      ap (λ (ws : List Write). held (all_made ws c) k) (store_fronts s c key value n l)
      ∙ splits_keep s c (hash key) (depth_at c key) (pairs_at c key) (leaf_here c key) may n k;
  whole = store_ends s c key value may;
}
