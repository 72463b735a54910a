-- The pairs of a page that a test keeps.
use Rattle.std.proofs.Common.{◌≡◌, ℕ, zero, suc, ◌+◌, ◌-◌, ◌*◌, ◌<◌, ◌≤◌, Bool, true, false, cond, not, ◌&&◌, List, [], ◌∷◌, ◌++◌, length, take, filter, Bor, Some, None, Option, sym, refl, ap, ◌∙◌, append-nil, arith}
use Rattle.pages.specs.Blank.{bytes_of}
use Rattle.pages.specs.Page.{Good, Pair, key_at, key_end, pair_of, pairs, pairs_of, val_at}
use Rattle.pages.proofs.Held.{good_in}
use Rattle.pages.specs.declared.page.PairPage.{PairPage}
use Rattle.std.proofs.lemmas.List.{drop_at, take_all, take_rest}
use Rattle.pages.specs.Read.{PairAt, Place}
use Rattle.pages.proofs.Looks.{length_pairs, none, pair_at}
use Rattle.page_edits.proofs.One.{fits_good, laid_at}
use Rattle.page_edits.proofs.Packs.{push_room}
use Rattle.page_edits.specs.Bytes.{Packed}
use Rattle.page_edits.specs.Edit.{falling, falls}
use Rattle.page_edits.specs.Stay.{all_but, stays}
use Rattle.keys.specs.Same.{same}
use Rattle.page_edits.specs.Write.{size}
use Rattle.std.specs.List.{between}
use Rattle.std.proofs.lemmas.List.Elements.{filter_more}

-- what a list takes of a page
abbrev pub cost : List Pair → ℕ
cost ps = 4 * length ps + size ps

pub cost_kept : (f : Pair → Bool) (ps : List Pair) → cost (filter f ps) ≤ cost ps
cost_kept f [] = omega arith
cost_kept f (p ∷ ps) =
    elim (f p) as (λ b. cost (cond b (p ∷ filter f ps) (filter f ps)) ≤ cost (p ∷ ps)) [
      | true ↦ omega (arith, cost_kept f ps)
      | false ↦ omega (arith, cost_kept f ps)
    ]

pub cost_take : (n : ℕ) (ps : List Pair) → cost (take n ps) ≤ cost ps
cost_take zero ps = omega arith
cost_take (suc n) [] = omega arith
cost_take (suc n) (p ∷ ps) = omega (arith, cost_take n ps)

-- one turn of a walk over the pairs
module _ (p : PairPage) (f : Pair → Bool) (k : ℕ) (lt : k < pairs (bytes_of p.good)) where
  abbrev pair : Pair
  pair = pair_of (bytes_of p.good) k

  abbrev kept : ℕ → List Pair
  kept i = filter f (take i (pairs_of (bytes_of p.good)))

  more : kept (k + 1) ≡ kept k ++ cond (f pair) (pair ∷ []) []
  more =
      let e = filter_more f (pairs_of (bytes_of p.good)) k none (omega (arith, length_pairs (bytes_of p.good))) in
      let h = pair_at (bytes_of p.good) k none lt in
      rw h at e

  pub kept_no : false ≡ f pair → kept (k + 1) ≡ kept k
  kept_no e = more ∙ rw (← e) (append-nil (kept k))

  pub kept_yes : true ≡ f pair → kept (k + 1) ≡ kept k ++ pair ∷ []
  kept_yes e = more ∙ rw (← e)

  -- there is room for a pair that is kept
  pub kept_room : true ≡ f pair → (out : List ℕ) (j free : ℕ) → Packed (kept k) out j free → 4 * j + 6 + (length pair.0 + length pair.1) ≤ free
  kept_room e out j free packed =
      let c = ap cost (kept_yes e) in
      push_room (kept k) pair.0 pair.1 out j free packed
      (omega (arith, (fits_good (bytes_of p.good) p.typed (good_in p)).room, cost_kept f (take (k + 1) (pairs_of (bytes_of p.good))), cost_take (k + 1) (pairs_of (bytes_of p.good)), c))

pub kept_all : (p : PairPage) (f : Pair → Bool) (k : ℕ) → pairs (bytes_of p.good) ≤ k → filter f (take k (pairs_of (bytes_of p.good))) ≡ filter f (pairs_of (bytes_of p.good))
kept_all p f k h = ap (filter f) (take_all k (pairs_of (bytes_of p.good)) (omega (arith, length_pairs (bytes_of p.good))))

-- two tests, one after the other
filter_both : (f g : Pair → Bool) (ps : List Pair) → filter (λ p. f p && g p) ps ≡ filter g (filter f ps)
filter_both f g [] = refl
filter_both f g (p ∷ ps) =
    let kept = filter (λ p. f p && g p) ps in
    elim (f p) as (λ b. cond (b && g p) (p ∷ kept) kept ≡ filter g (cond b (p ∷ filter f ps) (filter f ps))) [
      | true ↦ rw (filter_both f g ps)
      | false ↦ filter_both f g ps
    ]

-- the pairs that stay, as a list
pub staying : (but : Option (Bor (List ℕ))) (bits low : ℕ) (ps : List Pair) → filter (λ p. stays but bits low p.0) ps ≡ all_but but (falling bits low ps)
staying None bits low ps = refl
staying (Some key) bits low ps = filter_both (λ p. falls bits low p.0) (λ p. not (same p.0 key.now)) ps

-- the key among the bytes of a pair
pub key_in_bytes : (key value pair : List ℕ) (n : ℕ) → pair ≡ value ++ key → n ≡ length value → between n (length pair) pair ≡ key
key_in_bytes key value pair n e m = take_rest pair n ∙ rw e (drop_at value key n (sym m))

-- where the key and the value of a pair lie, as `pair` tells it
pub place_ends : (page : List ℕ) (g : Good page) (k : ℕ) (key val : Place) → PairAt page k (Some (key, val)) → (key.0 + key.1 ≡ key_end page k) × (val.0 + val.1 ≡ key_at page k) × (key_end page k ≤ 1024) × (key_at page k ≤ key_end page k)
place_ends page g k key val h =
    let l = laid_at page g k h.0 in
    let a : key.0 ≡ key_at page k = ap (λ (q : Place × Place). q.0.0) h.1 in
    let b : key.1 ≡ key_end page k - key_at page k = ap (λ (q : Place × Place). q.0.1) h.1 in
    let c : val.0 ≡ val_at page k = ap (λ (q : Place × Place). q.1.0) h.1 in
    let d : val.1 ≡ key_at page k - val_at page k = ap (λ (q : Place × Place). q.1.1) h.1 in
    (omega (arith, l.0), omega (arith, l.1), l.2, omega (arith, l.0))
